-- Things in a row: how the loops read them, and that they are read again.
use Rattle.std.proofs.Common.{◌≡◌, ℕ, zero, suc, ◌+◌, ◌-◌, ◌<◌, ◌≤◌, List, [], ◌∷◌, ◌++◌, length, Option, Some, None, refl, sym, ap, ◌∙◌, arith, append_assoc, length-append}
use Rattle.std.proofs.lemmas.List.{append-nil}
use Rattle.std.specs.Prelude.{codes, map}
use Rattle.ctext.specs.Names.{further}
use Rattle.cread.specs.Words.{◌>>=◌, after, put_first, behind, many_by}
use Rattle.cread.proofs.Naming.{IsEnd, at_close, at_comma}

-- ---- what the loops do

regroup : {A : Type 0} (front : List A) (x : A) (xs : List A × List ℕ)
    → behind front (put_first x xs) ≡ behind (front ++ x ∷ []) xs
regroup front x xs = ap (λ (l : List _). (l, xs.1)) (sym (append_assoc front (x ∷ []) xs.0))

pub row_more : {A : Type 0} (item : List ℕ → Option (A × List ℕ)) (front : List A) (count i : ℕ) (bytes : List ℕ)
    (x : A) (rest : List ℕ) (total : List A × List ℕ)
    → i < count
    → item bytes ≡ Some (x, rest)
    → behind front (many_by item (count - i) bytes) ≡ total
    → behind (front ++ x ∷ []) (many_by item (count - (i + 1)) rest) ≡ total
unfolding many_by
row_more item front count i bytes x rest total lt h so_far =
    let k : count - i ≡ suc (count - (i + 1)) = omega arith in
    let one : behind front (many_by item (count - i) bytes)
    ≡ behind (front ++ x ∷ []) (many_by item (count - (i + 1)) rest) =
    rw (k, h) (regroup front x (many_by item (count - (i + 1)) rest)) in
    sym one ∙ so_far

pub row_stops : {A : Type 0} (item : List ℕ → Option (A × List ℕ)) (front : List A) (count i : ℕ) (bytes : List ℕ)
    (total : List A × List ℕ)
    → i < count
    → item bytes ≡ None
    → behind front (many_by item (count - i) bytes) ≡ total → ◌≡◌ {A = List A × List ℕ} (front, bytes) total
unfolding many_by
row_stops item front count i bytes total lt h so_far =
    let k : count - i ≡ suc (count - (i + 1)) = omega arith in
    let one : behind front (many_by item (count - i) bytes) ≡ (front, bytes) =
    rw (k, h) (ap (λ (l : List _). (l, bytes)) (append-nil front)) in
    sym one ∙ so_far

pub row_ends : {A : Type 0} (item : List ℕ → Option (A × List ℕ)) (front : List A) (count i : ℕ) (bytes : List ℕ)
    (total : List A × List ℕ)
    → count ≤ i
    → behind front (many_by item (count - i) bytes) ≡ total
    → ◌≡◌ {A = List A × List ℕ} (front, bytes) total
unfolding many_by
row_ends item front count i bytes total le so_far =
    let k : count - i ≡ 0 = omega arith in
    let one : behind front (many_by item (count - i) bytes) ≡ (front, bytes) =
    rw k (ap (λ (l : List _). (l, bytes)) (append-nil front)) in
    sym one ∙ so_far

-- ---- things behind commas are read again

abbrev pub AllOf : {A : Type 0} → (A → Type 0) → List A → Type 0
AllOf P [] = Unit {0}
AllOf P (x ∷ xs) = P x × AllOf P xs

-- one thing before the others
pub comma_first : {A : Type 0} (item : List ℕ → Option (A × List ℕ)) (text : A → List ℕ) (x : A) (xs : List A)
    (rest : List ℕ)
    → ((c : ℕ) (z : List ℕ) → IsEnd c → item (text x ++ c ∷ z) ≡ Some (x, c ∷ z))
    → item (text x ++ (further (map text xs) ++ 41 ∷ rest)) ≡ Some (x, further (map text xs) ++ 41 ∷ rest)
comma_first item text x [] rest is = is 41 rest at_close
comma_first item text x (y ∷ ys) rest is = is 44 (32 ∷ ((text y ++ further (map text ys)) ++ 41 ∷ rest)) at_comma

pub comma_row : {A : Type 0} (item next : List ℕ → Option (A × List ℕ)) (text : A → List ℕ) (Ok : A → Type 0)
    → ((bytes : List ℕ) → next bytes ≡ (after (codes ", ") bytes >>= item))
    → ((x : A) (c : ℕ) (z : List ℕ) → Ok x → IsEnd c → item (text x ++ c ∷ z) ≡ Some (x, c ∷ z))
    → (xs : List A) (k : ℕ) (rest : List ℕ)
    → AllOf Ok xs
    → length xs ≤ k
    → ◌≡◌ {A = List A × List ℕ} (many_by next k (further (map text xs) ++ 41 ∷ rest)) (xs, 41 ∷ rest)
unfolding many_by after
comma_row item next text Ok is reads [] zero rest all le = refl
comma_row item next text Ok is reads [] (suc k) rest all le = let n = is (41 ∷ rest) in rw n refl
comma_row item next text Ok is reads (x ∷ xs) zero rest all le = absurd (omega arith)
comma_row item next text Ok is reads (x ∷ xs) (suc k) rest all le =
    let others = further (map text xs) ++ 41 ∷ rest in
    let n = is (44 ∷ 32 ∷ ((text x ++ further (map text xs)) ++ 41 ∷ rest)) in
    let grouped : (text x ++ further (map text xs)) ++ 41 ∷ rest ≡ text x ++ others =
    append_assoc (text x) (further (map text xs)) (41 ∷ rest) in
    let one = comma_first item text x xs rest (λ c z end. reads x c z all.0 end) in
    let more = comma_row item next text Ok is reads xs k rest all.1 (omega arith) in
    rw (n, grouped, one, more) refl

pub comma_long : {A : Type 0} (text : A → List ℕ) (xs : List A) (z : List ℕ)
    → length xs ≤ length (further (map text xs) ++ z)
comma_long text [] z = omega arith
comma_long text (x ∷ xs) z =
    let more = comma_long text xs z in
    omega (
      arith,
      more,
      length-append (further (map text xs)) z,
      length-append
          (44 ∷ 32 ∷ (text x ++ further (map text xs))) z,
      length-append (text x) (further (map text xs)),
    )

pub comma_again : {A : Type 0} (item next : List ℕ → Option (A × List ℕ)) (text : A → List ℕ) (Ok : A → Type 0)
    → ((bytes : List ℕ) → next bytes ≡ (after (codes ", ") bytes >>= item))
    → ((x : A) (c : ℕ) (z : List ℕ) → Ok x → IsEnd c → item (text x ++ c ∷ z) ≡ Some (x, c ∷ z))
    → (xs : List A) (rest : List ℕ)
    → AllOf Ok xs
    → ◌≡◌ {A = List A × List ℕ} (many_by next (length (further (map text xs) ++ 41 ∷ rest))
    (further (map text xs) ++ 41 ∷ rest)) (xs, 41 ∷ rest)
comma_again item next text Ok is reads xs rest all =
    comma_row item next text Ok is reads xs (length (further (map text xs) ++ 41 ∷ rest)) rest all
    (comma_long text xs (41 ∷ rest))
