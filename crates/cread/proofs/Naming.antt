-- The names of variables and callees are read again.
use Rattle.std.proofs.Common.{◌≡◌, ℕ, zero, suc, ◌+◌, ◌-◌, ◌%◌, ◌^◌, ◌<◌, ◌≤◌, Bool, true, false, cond, eqb, ltb, leb, ◌&&◌, List, [], ◌∷◌, ◌++◌, length, Option, Some, None, refl, sym, ap, ◌∙◌, arith, inl, inr}
use Rattle.std.specs.Prelude.{codes, slice_get, ℤ, pos, negsuc, neg_ℤ, not}
use Rattle.std.specs.Ordering.{int_eq}
use Rattle.std.specs.Int.Signed.{lt_z, le_z}
use Rattle.std.specs.Char.{is_digit}
use Rattle.std.proofs.lemmas.Bool.{lt-ltb, le-ltb, ltb-true, leb-true, le-leb, eqb-true, cases_Bool, and_parts, and_from}
use Rattle.std.proofs.lemmas.Bool.Decides.{Decides-int_eq}
use Rattle.std.proofs.lemmas.Option.{slice_get_cases}
use Rattle.pcode_model.specs.declared.storage.ParamStorage.{ParamStorage}
use Rattle.pcode_model.specs.declared.storage.ParamStorage.TheVariants.{Register, Unique, Stack}
use Rattle.cmeaning.specs.declared.tree.Param.{Param}
use Rattle.cmeaning.specs.declared.tree.Local.{Local}
use Rattle.cmeaning.specs.Valid.{is_storage, is_before, is_either_before, may_precede, precedes_all, are_params}
use Rattle.ctext.specs.Names.{storage_text, param_name, local_name, Scope, variable, of_param_or_local, of_local}
use Rattle.cread.specs.declared.item.Entry.{Entry}
use Rattle.cread.specs.Words.{after}
use Rattle.cmeaning.specs.Entries.{same_flag, same_storage}
use Rattle.cread.specs.Names.{storage_at, entry_at, is_entry, place_of, variable_at}
use Rattle.cread.proofs.Fronts.{hex_again, decimal_again, hex_begins}

-- what may stand behind an operand, and behind a whole expression
pub data IsStop : ℕ → Type 0 where
  space : IsStop 32
  close : IsStop 41
  comma : IsStop 44
  semi : IsStop 59

pub data IsEnd : ℕ → Type 0 where
  at_close : IsEnd 41
  at_comma : IsEnd 44
  at_semi : IsEnd 59

pub stop_of : {c : ℕ} → IsEnd c → IsStop c
stop_of at_close = close
stop_of at_comma = comma
stop_of at_semi = semi

pub stop_digit : {c : ℕ} → IsStop c → is_digit c 16 ≡ false
stop_digit space = refl
stop_digit close = refl
stop_digit comma = refl
stop_digit semi = refl

pub stop_decimal : {c : ℕ} → IsStop c → is_digit c 10 ≡ false
stop_decimal space = refl
stop_decimal close = refl
stop_decimal comma = refl
stop_decimal semi = refl

stop_not_m : {c : ℕ} → IsStop c → eqb 109 c ≡ false
stop_not_m space = refl
stop_not_m close = refl
stop_not_m comma = refl
stop_not_m semi = refl

-- ---- storages

below_least : (k : ℕ) → le_z (negsuc 2147483647) (negsuc k) ≡ true → k < 2 ^ 31
below_least k h = let le : k ≤ 2147483647 = leb-true _ _ h in omega arith

negated : (k : ℕ) → neg_ℤ (pos (k + 1)) ≡ negsuc k
negated k = let e : k + 1 ≡ suc k = omega arith in rw e refl

pub storage_again : (s : ParamStorage) (c : ℕ) (rest : List ℕ)
    → is_storage s ≡ true
    → IsStop c
    → storage_at (storage_text s ++ c ∷ rest) ≡ Some (s, c ∷ rest)
unfolding storage_at after
storage_again (Register o) c rest fits stop =
    let low : o < 2 ^ 64 = ltb-true _ _ fits in
    let n = hex_again o c rest (omega arith) (stop_digit stop) in
    let same : o % 2 ^ 64 ≡ o = omega arith in
    rw (n, same) refl
storage_again (Unique o) c rest fits stop =
    let low : o < 2 ^ 64 = ltb-true _ _ fits in
    let n = hex_again o c rest (omega arith) (stop_digit stop) in
    let same : o % 2 ^ 64 ≡ o = omega arith in
    rw (n, same) refl
storage_again (Stack (pos k)) c rest fits stop =
    let both = and_parts (le_z (negsuc 2147483647) (pos k)) (lt_z (pos k) (pos 2147483648)) fits in
    let low : k < 2 ^ 31 = ltb-true _ _ both.1 in
    let n = hex_again k c rest (omega arith) (stop_digit stop) in
    let not_m = hex_begins 109 k c rest (omega arith) refl (stop_not_m stop) in
    let test : ltb k (2 ^ 31) ≡ true = lt-ltb _ _ low in
    rw (not_m, n, test) refl
storage_again (Stack (negsuc k)) c rest fits stop =
    let both = and_parts (le_z (negsuc 2147483647) (negsuc k)) (lt_z (negsuc k) (pos 2147483648)) fits in
    let low : k < 2 ^ 31 = below_least k both.0 in
    let n = hex_again (k + 1) c rest (omega arith) (stop_digit stop) in
    let test : leb (k + 1) (2 ^ 31) ≡ true = le-leb _ _ (omega arith) in
    let same = negated k in
    rw (n, test, same) refl

entry_flag : (m : Bool) (s : ParamStorage) (c : ℕ) (rest : List ℕ)
    → storage_at (storage_text s ++ c ∷ rest) ≡ Some (s, c ∷ rest)
    → entry_at ((cond m (codes "p_") (codes "in_") ++ storage_text s) ++ c ∷ rest)
    ≡ Some (record { model = m; storage = s }, c ∷ rest)
unfolding entry_at after
entry_flag true s c rest read = rw read refl
entry_flag false s c rest read = rw read refl

pub entry_again : (p : Param) (c : ℕ) (rest : List ℕ)
    → is_storage p.storage ≡ true
    → IsStop c
    → entry_at (param_name p ++ c ∷ rest) ≡ Some (record { model = p.model; storage = p.storage }, c ∷ rest)
entry_again p c rest fits stop = entry_flag p.model p.storage c rest (storage_again p.storage c rest fits stop)

-- ---- places of parameters

abbrev pub entry_of : Param → Entry
entry_of p = record { model = p.model; storage = p.storage }

same_flags : (a : Bool) → same_flag a a ≡ true
same_flags true = refl
same_flags false = refl

flag_is : (a b : Bool) → same_flag a b ≡ true → a ≡ b
flag_is true true h = refl
flag_is true false h = absurd cc
flag_is false true h = absurd cc
flag_is false false h = refl

same_numbers : (a : ℕ) → eqb a a ≡ true
same_numbers a = grind arith

int_same : (a : ℤ) → int_eq a a ≡ true
int_same a = (Decides-int_eq a a).1 refl

pub storage_same : (s : ParamStorage) → same_storage s s ≡ true
storage_same (Register a) = same_numbers a
storage_same (Unique a) = same_numbers a
storage_same (Stack a) = int_same a

not_under : (a : ℕ) → ltb a a ≡ false
not_under a = le-ltb _ _ (omega arith)

not_under_z : (a : ℤ) → lt_z a a ≡ false
not_under_z (pos a) = not_under a
not_under_z (negsuc a) = not_under a

not_before : (a : ParamStorage) → is_before a a ≡ false
not_before (Register a) = not_under a
not_before (Unique a) = not_under a
not_before (Stack a) = not_under_z a

storage_is : (a b : ParamStorage) → same_storage a b ≡ true → a ≡ b
storage_is (Register a) (Register b) h = ap Register (eqb-true _ _ h)
storage_is (Register a) (Unique b) h = absurd cc
storage_is (Register a) (Stack b) h = absurd cc
storage_is (Unique a) (Register b) h = absurd cc
storage_is (Unique a) (Unique b) h = ap Unique (eqb-true _ _ h)
storage_is (Unique a) (Stack b) h = absurd cc
storage_is (Stack a) (Register b) h = absurd cc
storage_is (Stack a) (Unique b) h = absurd cc
storage_is (Stack a) (Stack b) h = ap Stack ((Decides-int_eq a b).0 h)

-- parameters of one name don't precede each other
not_precede : (m : Bool) (p : ParamStorage)
    → cond m (cond m (is_either_before p p) true) (not m && is_before p p) ≡ false
not_precede true p = let one = not_before p in rw one refl
not_precede false p = not_before p

not_follow : (x p : Param) → x.model ≡ p.model → x.storage ≡ p.storage → may_precede x p ≡ false
not_follow x p flags same =
    let one : cond p.model (cond p.model (is_either_before p.storage p.storage) true)
    (not p.model && is_before p.storage p.storage) ≡ false = not_precede p.model p.storage in
    rw (flags, same) one

apart : (x p : Param) → may_precede x p ≡ true → is_entry (entry_of p) x ≡ false
apart x p h =
    elim (cases_Bool (is_entry (entry_of p) x)) [
      | inl same ↦
          let both = and_parts (same_flag x.model p.model) (same_storage x.storage p.storage) same in
          let gap = not_follow x p (flag_is x.model p.model both.0) (storage_is x.storage p.storage both.1) in
          absurd (let never : true ≡ false = sym h ∙ gap in cc)
      | inr other ↦ other
    ]

precedes : (x : Param) (ps : List Param) (i : ℕ) (p : Param)
    → precedes_all x ps ≡ true
    → slice_get ps i ≡ Some p
    → may_precede x p ≡ true
precedes x [] i p h at = absurd cc
precedes x (q ∷ ps) zero p h at = let same : q ≡ p = cc in
    ap (may_precede x) (sym same) ∙ (and_parts (may_precede x q) (precedes_all x ps) h).0
precedes x (q ∷ ps) (suc i) p h at = precedes x ps i p (and_parts (may_precede x q) (precedes_all x ps) h).1 at

pub places : (ps : List Param) (n i : ℕ) (p : Param)
    → are_params ps ≡ true
    → slice_get ps i ≡ Some p
    → (place_of (entry_of p) n ps ≡ Some (n + i)) × (is_storage p.storage ≡ true)
places [] n i p ok at = absurd cc
places (x ∷ xs) n zero p ok at =
    let three = and_parts (is_storage x.storage) (precedes_all x xs && are_params xs) ok in
    let same : x ≡ p = cc in
    let yes : is_entry (entry_of p) x ≡ true =
    ap (λ (q : Param). is_entry (entry_of p) q) same
    ∙ and_from (same_flag p.model p.model) (same_storage p.storage p.storage) (same_flags p.model)
    (storage_same p.storage) in
    (rw yes (ap (λ (k : ℕ). Some k) (omega arith)), ap (λ (q : Param). is_storage q.storage) (sym same) ∙ three.0)
places (x ∷ xs) n (suc i) p ok at =
    let three = and_parts (is_storage x.storage) (precedes_all x xs && are_params xs) ok in
    let rest = and_parts (precedes_all x xs) (are_params xs) three.1 in
    let more = places xs (n + 1) i p rest.1 at in
    let gap = apart x p (precedes x xs i p rest.0 at) in
    let found = more.0 in
    (rw (gap, found) (ap (λ (k : ℕ). Some k) (omega arith)), more.1)

-- ---- variables

-- begins like a variable's name: behind no other byte
pub data NameHead : List ℕ → Type 0 where
  of_local_name : (bs : List ℕ) → NameHead (118 ∷ bs)
  of_model : (bs : List ℕ) → NameHead (112 ∷ 95 ∷ bs)
  of_entry : (bs : List ℕ) → NameHead (105 ∷ 110 ∷ 95 ∷ bs)

pub record Named (sc : Scope) (k : ℕ) (name : List ℕ) : Type 0 where
  pub begins : (z : List ℕ) → NameHead (name ++ z)
  pub again : (c : ℕ) (rest : List ℕ) → IsStop c → variable_at sc (name ++ c ∷ rest) ≡ Some (k, c ∷ rest)

param_begins : (m : Bool) (t z : List ℕ) → NameHead ((cond m (codes "p_") (codes "in_") ++ t) ++ z)
param_begins true t z = of_model (t ++ z)
param_begins false t z = of_entry (t ++ z)

param_again : (sc : Scope) (m : Bool) (p : ParamStorage) (k c : ℕ) (rest : List ℕ)
    → storage_at (storage_text p ++ c ∷ rest) ≡ Some (p, c ∷ rest)
    → place_of (record { model = m; storage = p }) 0 sc.params ≡ Some k
    → k < 2 ^ 32
    → variable_at sc ((cond m (codes "p_") (codes "in_") ++ storage_text p) ++ c ∷ rest) ≡ Some (k, c ∷ rest)
unfolding variable_at entry_at after
param_again sc true p k c rest read place low = let fits : ltb k (2 ^ 32) ≡ true = lt-ltb _ _ low in
    rw (read, place, fits) refl
param_again sc false p k c rest read place low = let fits : ltb k (2 ^ 32) ≡ true = lt-ltb _ _ low in
    rw (read, place, fits) refl

local_again : (sc : Scope) (n k c : ℕ) (rest : List ℕ)
    → n < 2 ^ 33
    → k < 2 ^ 32
    → length sc.params + (n - 1) ≡ k
    → is_digit c 10 ≡ false
    → variable_at sc (local_name n ++ c ∷ rest) ≡ Some (k, c ∷ rest)
unfolding variable_at after
local_again sc n k c rest low_n low is stop =
    let d = decimal_again n c rest (omega arith) stop in
    let same : n % 2 ^ 33 ≡ n = omega arith in
    let fits : ltb k (2 ^ 32) ≡ true = lt-ltb _ _ low in
    rw (d, same, is, fits) refl

local_named : (sc : Scope) (k : ℕ) (o : Option Local)
    → length sc.params ≤ k
    → k < 2 ^ 32
    → slice_get sc.locals (k - length sc.params) ≡ o
    → 0 < (of_local (k - length sc.params + 1) o).width
    → Named sc k (of_local (k - length sc.params + 1) o).name
local_named sc k None le low at wide = absurd (omega arith)
local_named sc k (Some l) le low at wide = record {
  begins = λ z. of_local_name _;
  again = λ c rest stop. local_again sc (k - length sc.params + 1) k c rest (omega arith) low (omega arith)
      (stop_decimal stop);
}

either_named : (sc : Scope) (k : ℕ) (o : Option Param)
    → are_params sc.params ≡ true
    → k < 2 ^ 32
    → slice_get sc.params k ≡ o
    → 0 < (of_param_or_local sc k o).width
    → Named sc k (of_param_or_local sc k o).name
either_named sc k (Some p) ok low at wide =
    let found = places sc.params 0 k p ok at in
    let place : place_of (entry_of p) 0 sc.params ≡ Some k = found.0 ∙ ap (λ (m : ℕ). Some m) (omega arith) in
    record {
      begins = λ z. param_begins p.model (storage_text p.storage) z;
      again = λ c rest stop. param_again sc p.model p.storage k c rest (storage_again p.storage c rest found.1 stop)
          place low;
    }
either_named sc k None ok low at wide =
    elim (slice_get_cases sc.params k).1 [
      | inl found ↦ absurd (let f : Some found.0 ≡ None = sym found.2 ∙ at in cc)
      | inr past ↦ local_named sc k (slice_get sc.locals (k - length sc.params)) past.0 low refl wide
    ]

pub variable_named : (sc : Scope) (k : ℕ)
    → are_params sc.params ≡ true
    → k < 2 ^ 32
    → 0 < (variable sc k).width
    → Named sc k (variable sc k).name
unfolding variable
variable_named sc k ok low wide = either_named sc k (slice_get sc.params k) ok low refl wide
