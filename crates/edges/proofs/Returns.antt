-- Which calls return, where statements are left out: the same, as before the exit Stop stands a call, which stays.
use Rattle.std.proofs.Common.{◌≡◌, Bool, true, false, List, [], ◌∷◌, ◌++◌, refl, sym, ap, ◌∙◌, subst, inl, inr, ⊎_elim}
use Rattle.cmeaning.specs.declared.tree.Stmt.{Stmt}
use Rattle.blockcode.specs.declared.code.Exit.{Exit}
use Rattle.blockcode.specs.declared.code.Exit.TheVariants as X
use Rattle.blockcode.specs.Run.{call_returns}
use Rattle.parts.specs.Stmts.{Action, action_of}
use Rattle.edges.specs.Live.{IsCall, EndsInCall, IsLeftOf}
use Rattle.edges.specs.Follow.{IsQuiet}

-- the second has statements of the first, or others in their place, and as many calls
pub data KeepsCalls : List Stmt → List Stmt → Type 0 where
  Nothing : KeepsCalls [] []
  Both : (a a' : Stmt) (rest rest' : List Stmt) → KeepsCalls rest rest' → KeepsCalls (a ∷ rest) (a' ∷ rest')
  Less : (a : Stmt) (rest rest' : List Stmt)
      → (IsCall a → ⊥)
      → KeepsCalls rest rest'
      → KeepsCalls (a ∷ rest) rest'

abbrev is_last : List Stmt → Bool
is_last [] = true
is_last (a ∷ rest) = false

-- What is left behind the first statement.
later_left : (a : Stmt) (rest : List Stmt) → EndsInCall (a ∷ rest) → IsLeftOf rest
later_left a [] h = inr refl
later_left a (b ∷ rest) h = inl h

pub left_behind : (a : Stmt) (rest : List Stmt) → IsLeftOf (a ∷ rest) → IsLeftOf rest
left_behind a rest left = ⊎_elim (later_left a rest) (λ none. absurd (cc)) left

lone_call : (a : Stmt) (rest : List Stmt) → EndsInCall (a ∷ rest) → rest ≡ [] → IsCall a
lone_call a [] h e = h
lone_call a (b ∷ rest) h e = absurd (cc)

ends_on : (rest : List Stmt) → EndsInCall rest → is_last rest ≡ false
ends_on [] h = absurd h
ends_on (a ∷ rest) h = refl

none_of : (rest rest' : List Stmt) → KeepsCalls rest rest' → rest ≡ [] → rest' ≡ []
none_of rest rest' Nothing e = refl
none_of rest rest' (Both a a' r r' next) e = absurd (cc)
none_of rest rest' (Less a r r' quiet next) e = absurd (cc)

calls_on : (rest rest' : List Stmt) → KeepsCalls rest rest' → EndsInCall rest → is_last rest' ≡ false
calls_on rest rest' Nothing h = absurd h
calls_on rest rest' (Both a a' r r' next) h = refl
calls_on rest rest' (Less a r r' quiet next) h = ⊎_elim
    (λ on. calls_on r r' next on)
    (λ none. absurd (quiet (lone_call a r h none)))
    (later_left a r h)

last_alike : (rest rest' : List Stmt) → KeepsCalls rest rest' → IsLeftOf rest → is_last rest ≡ is_last rest'
last_alike rest rest' keeps left = ⊎_elim
    (λ on. ends_on rest on ∙ sym (calls_on rest rest' keeps on))
    (λ none. ap is_last none ∙ sym (ap is_last (none_of rest rest' keeps none)))
    left

returns_by_last : (rest rest' : List Stmt) (x : Exit)
    → (x ≡ X.Stop → is_last rest ≡ is_last rest')
    → call_returns rest x ≡ call_returns rest' x
returns_by_last [] [] x h = refl
returns_by_last [] (b ∷ s) (X.Return e) h = refl
returns_by_last [] (b ∷ s) (X.Jump c) h = refl
returns_by_last [] (b ∷ s) (X.Test e c d) h = refl
returns_by_last [] (b ∷ s) (X.Switch e arms) h = refl
returns_by_last [] (b ∷ s) X.Stop h = let differ = h refl in absurd (cc)
returns_by_last (a ∷ r) [] (X.Return e) h = refl
returns_by_last (a ∷ r) [] (X.Jump c) h = refl
returns_by_last (a ∷ r) [] (X.Test e c d) h = refl
returns_by_last (a ∷ r) [] (X.Switch e arms) h = refl
returns_by_last (a ∷ r) [] X.Stop h = let differ = h refl in absurd (cc)
returns_by_last (a ∷ r) (b ∷ s) x h = refl

-- A call in front of the statements returns exactly where it does in front of those that stay.
pub returns_kept : (rest rest' : List Stmt) (x : Exit)
    → KeepsCalls rest rest'
    → (x ≡ X.Stop → IsLeftOf rest)
    → call_returns rest x ≡ call_returns rest' x
returns_kept rest rest' x keeps left = returns_by_last rest rest' x (λ e. last_alike rest rest' keeps (left e))

-- And in front of more statements, where none come before the exit Stop.
pub returns_before : (rest more : List Stmt) (x : Exit)
    → (x ≡ X.Stop → more ≡ [])
    → call_returns rest x ≡ call_returns (rest ++ more) x
returns_before [] more x none =
    returns_by_last [] more x (λ e. sym (ap is_last (none e)))
returns_before (a ∷ rest) more x none = refl

-- A quiet statement is no call.
pub quiet_no_call : (a : Stmt) → IsQuiet (action_of a) → IsCall a → ⊥
quiet_no_call a quiet call = let P : Action → Type 0 = λ z. IsQuiet z in subst P call.1 quiet
