-- Copies one after another that act as if all were done at once: none writes what another one reads.
use Rattle.std.proofs.Common.{◌≡◌, ◌≢◌, ℕ, List, [], ◌∷◌, Some, refl, sym, ap, ◌∙◌, subst, ◌⊎◌, inl, inr, ⊎_elim}
use Rattle.std.proofs.lemmas.Bool.{cases_eq}
use Rattle.pcode_model.specs.Spaces.{put}
use Rattle.cmeaning.proofs.Value.{value_of_var}
use Rattle.parts.specs.Exprs.{Env, Holds}
use Rattle.parts.proofs.Values.{put_same, put_other}
use Rattle.edges.specs.Follow.{In, copies_of, if_some, copied}

-- what is copied has a word; nothing that is written is copied; and nothing is written from two places
pub record MayCopy {A : Type 0} (g h : A → ℕ) (xs : List A) (t : Env) : Type 0 where
  pub holds : (x : A) → In x xs → Holds t (h x)
  pub apart : (x y : A) → In x xs → In y xs → h y ≢ g x
  pub once : (x y : A) → In x xs → In y xs → g x ≡ g y → h x ≡ h y

pub record Copied {A : Type 0} (ws : ℕ → ℕ) (g h : A → ℕ) (xs : List A) (t u : Env) : Type 0 where
  pub ran : copied ws (copies_of g h xs) t ≡ Some u
  pub others : (v : ℕ) → ((x : A) → In x xs → v ≢ g x) → u v ≡ t v
  pub each : (x : A) → In x xs → u (g x) ≡ t (h x)

-- whether v is written
written : {A : Type 0} (g : A → ℕ) (v : ℕ) (xs : List A)
    → ((x : A) × In x xs × (v ≡ g x)) ⊎ ((x : A) → In x xs → v ≢ g x)
written g v [] = inr (λ x i. absurd i)
written {A} g v (y ∷ ys) =
    let P : A → Type 0 = λ z. v ≢ g z in
    ⊎_elim
    (λ e. inl (y, inl refl, e))
    (λ ne. ⊎_elim
    (λ w. inl (w.0, inr w.1, w.2))
    (λ no. inr (λ x i. ⊎_elim (λ same. subst P (sym same) ne) (λ later. no x later) i))
    (written g v ys))
    (cases_eq v (g y))

-- Such copies run through, and give what they would at once.
pub all_copied : {A : Type 0} (ws : ℕ → ℕ) (g h : A → ℕ) (xs : List A) (t : Env)
    → MayCopy g h xs t
    → (u : Env) × Copied ws g h xs t u
all_copied ws g h [] t may = (t, record { ran = refl; others = λ v no. refl; each = λ x i. absurd i })
all_copied {A} ws g h (x ∷ xs) t may =
    let n = may.holds x (inl refl) in
    let t1 : Env = put t (g x) (Some n.0) in
    let still : (y : A) → In y (x ∷ xs) → t1 (h y) ≡ t (h y) =
    λ y i. put_other t (g x) (Some n.0) (h y) (may.apart x y (inl refl) i) in
    let rest = all_copied ws g h xs t1 (record {
      holds = λ y i. let m = may.holds y (inr i) in (m.0, still y (inr i) ∙ m.1);
      apart = λ y z i j. may.apart y z (inr i) (inr j);
      once = λ y z i j. may.once y z (inr i) (inr j);
    }) in
    let first : rest.0 (g x) ≡ t (h x) = ⊎_elim
    (λ w.
    ap rest.0 w.2
    ∙ rest.1.each w.0 w.1
    ∙ still w.0 (inr w.1)
    ∙ ap t (sym (may.once x w.0 (inl refl) (inr w.1) w.2)))
    (λ no. rest.1.others (g x) no ∙ put_same t (g x) (Some n.0) ∙ sym n.1)
    (written g (g x) xs) in
    let next = λ (m : ℕ). copied ws (copies_of g h xs) (put t (g x) (Some m)) in (
      rest.0,
      record {
        ran = ap (λ o. if_some o next) (value_of_var ws t (h x) ∙ n.1) ∙ rest.1.ran;
        others = λ v no.
            rest.1.others v (λ y i. no y (inr i)) ∙ put_other t (g x) (Some n.0) v (no x (inl refl));
        each = λ y i. ⊎_elim
            (λ same. ap (λ z. rest.0 (g z)) same ∙ first ∙ ap (λ z. t (h z)) (sym same))
            (λ later. rest.1.each y later ∙ still y (inr later))
            i;
      },
    )
