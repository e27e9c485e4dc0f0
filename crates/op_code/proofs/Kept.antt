-- The bytes of registers after a call, range by range.
use Rattle.std.proofs.Common.{◌≡◌, ◌≢◌, ℕ, suc, ◌+◌, ◌%◌, ◌<◌, ◌≤◌, Bool, true, false, List, [], ◌∷◌, ◌++◌, length, Option, Some, None, refl, sym, ap, ◌∙◌, ◌⊎◌, inl, inr, ⊎_elim, arith}
use Rattle.std.specs.Prelude.{◌==◌, ◌&&◌, cond, nat_lt, if◌then◌else◌, IfSome}
use Rattle.std.proofs.Math.Path.{fun_ext}
use Rattle.std.proofs.lemmas.Bool.{cases_eq, cases_lt}
use Rattle.std.proofs.lemmas.Bool.Decides.{nat_tests}
use Rattle.bits_core.specs.Value.{limit}
use Rattle.laws.proofs.Bytes.{length-word_bytes}
use Rattle.pcode_model.specs.declared.listing.Varnode.{Varnode}
use Rattle.pcode_model.specs.declared.listing.Proto.{Proto}
use Rattle.pcode_model.specs.declared.listing.Listing.{Listing}
use Rattle.pcode_model.specs.Atoms.{one_range}
use Rattle.pcode_model.specs.Spaces.{each_at, first_ram, is_big, next, put_in, register_space, size_of}
use Rattle.pcode_model.specs.Memory.{Bytes}
use Rattle.pcode_model.specs.World.{Answer}
use Rattle.pcode_model.specs.Step.{after_callee, bytes_in, in_option, in_range, in_some, local_word, with_pop, with_result, with_word}
use Rattle.pcode_laws.proofs.Puts.{IsOther, next_within, put_in_at, put_in_else}
use Rattle.range_words.specs.Own.{centred, stack_size, with_own}
use Rattle.range_words.specs.Ranges.{AreBytes, IsInside}
use Rattle.range_words.proofs.Own.{word_else, written_else}
use Rattle.range_words.proofs.Written.{IsOff}

-- Where bytes are the same but in a range, they are the same once it is written.
module _ (size s : ℕ) where
  one_written : (o b : ℕ) (m n : Bytes) (t p : ℕ)
      → (IsOther s o t p → m t p ≡ n t p)
      → put_in s o b m t p ≡ put_in s o b n t p
  one_written o b m n t p same = ⊎_elim
      (λ (at : t ≡ s). ⊎_elim
      (λ (here : p ≡ o).
      ap (λ x. put_in s o b m x p) at ∙ ap (λ x. put_in s o b m s x) here ∙ put_in_at s o b m
      ∙ sym (put_in_at s o b n) ∙ ap (λ x. put_in s o b n s x) (sym here) ∙ ap (λ x. put_in s o b n x p) (sym at))
      (λ (ne : p ≢ o). put_in_else s o b m t p (inr ne) ∙ same (inr ne) ∙ sym (put_in_else s o b n t p (inr ne)))
      (cases_eq p o))
      (λ (ne : t ≢ s). put_in_else s o b m t p (inl ne) ∙ same (inl ne) ∙ sym (put_in_else s o b n t p (inl ne)))
      (cases_eq t s)

  all_written : (o : ℕ) (bs : List ℕ) (m n : Bytes)
      → o + length bs ≤ size
      → ((t p : ℕ) → IsOff s o (length bs) t p → m t p ≡ n t p)
      → (t p : ℕ)
      → each_at size (put_in s) o bs m t p ≡ each_at size (put_in s) o bs n t p
  all_written o [] m n within same t p =
      same t p (⊎_elim (λ (lt : p < o). inr (inl lt)) (λ (ge : o ≤ p). inr (inr (omega (arith, ge)))) (cases_lt p o))
  all_written o (b ∷ []) m n within same t p =
      one_written o b m n t p (λ other. same t p (⊎_elim (λ (ne : t ≢ s). inl ne)
      (λ (ne : p ≢ o). ⊎_elim (λ (lt : p < o). inr (inl lt)) (λ (ge : o ≤ p). inr (inr (omega (arith, ge, ne))))
      (cases_lt p o)) other))
  all_written o (b ∷ c ∷ bs) m n within same t p =
      let j : next size o ≡ suc o = next_within size o (omega (arith, within)) in
      ap (λ x. each_at size (put_in s) x (c ∷ bs) (put_in s o b m) t p) j
      ∙ all_written (suc o) (c ∷ bs) (put_in s o b m) (put_in s o b n) (omega (arith, within))
      (λ u q off. one_written o b m n u q (λ other. same u q (further u q off other))) t p
      ∙ ap (λ x. each_at size (put_in s) x (c ∷ bs) (put_in s o b n) t p) (sym j)
    where
      further : (u q : ℕ) → IsOff s (suc o) (length (c ∷ bs)) u q → IsOther s o u q → IsOff s o (length (b ∷ c ∷ bs)) u q
      further u q off other = ⊎_elim
          (λ (ne : u ≢ s). inl ne)
          (λ side. ⊎_elim
          (λ (lt : q < suc o). ⊎_elim
          (λ (ne : u ≢ s). inl ne)
          (λ (ne : q ≢ o). inr (inl (omega (arith, lt, ne))))
          other)
          (λ (ge : suc o + length (c ∷ bs) ≤ q). inr (inr (omega (arith, ge))))
          side)
          off

-- ---- after a call

-- The bytes with others at the register offsets that lie in none of these ranges.
abbrev pub replaced : Listing → List Varnode → (ℕ → ℕ) → Bytes → Bytes
replaced l spared r m s o = if s == register_space l then (if in_some spared o then m s o else r o) else m s o

module _ (l : Listing) (spared : List Varnode) (r : ℕ → ℕ) (m : Bytes) where
  pub replaced_here : (o : ℕ) → in_some spared o ≡ false → replaced l spared r m (register_space l) o ≡ r o
  replaced_here o out =
      let s = register_space l in
      let at : (s == s) ≡ true = grind (arith, nat_tests) in
      ap (λ b. cond b (cond (in_some spared o) (m s o) (r o)) (m s o)) at
      ∙ ap (λ b. cond b (m s o) (r o)) out

  pub replaced_in : (s o : ℕ) → in_some spared o ≡ true → replaced l spared r m s o ≡ m s o
  replaced_in s o within = ap (λ b. cond (s == register_space l) (cond b (m s o) (r o)) (m s o)) within
      ∙ same_both (s == register_space l)
    where
      same_both : (b : Bool) → cond b (m s o) (m s o) ≡ m s o
      same_both true = refl
      same_both false = refl

  pub replaced_else : (s o : ℕ) → s ≢ register_space l → replaced l spared r m s o ≡ m s o
  replaced_else s o ne =
      let at : (s == register_space l) ≡ false = grind (arith, nat_tests) in
      ap (λ b. cond b (cond (in_some spared o) (m s o) (r o)) (m s o)) at

  -- they stay bytes
  pub replaced_bytes : ((o : ℕ) → r o < 256) → AreBytes m → AreBytes (replaced l spared r m)
  replaced_bytes small are s o = one (s == register_space l) (in_some spared o)
    where
      one : (b c : Bool) → cond b (cond c (m s o) (r o)) (m s o) < 256
      one true true = are s o
      one true false = small o
      one false c = are s o

-- what a callee leaves as it was: what its prototype keeps, and the stack pointer
abbrev pub left_alone : Listing → Proto → List Varnode
left_alone l p = p.keep ++ one_range l.stack

same_true : (b : Bool) (x y : ℕ) → cond (cond b true false) x y ≡ cond b x y
same_true true x y = refl
same_true false x y = refl

some_or : (ws : List Varnode) (st : Option Varnode) (o x y : ℕ)
    → cond (in_some ws o) x (cond (in_option st o) x y) ≡ cond (in_some (ws ++ one_range st) o) x y
some_or [] None o x y = refl
some_or [] (Some v) o x y = sym (same_true (in_range v o) x y)
some_or (w ∷ ws) st o x y = by (in_range w o) (some_or ws st o x y)
  where
    by : (b : Bool)
        → cond (in_some ws o) x (cond (in_option st o) x y) ≡ cond (in_some (ws ++ one_range st) o) x y
        → cond (cond b true (in_some ws o)) x (cond (in_option st o) x y)
        ≡ cond (cond b true (in_some (ws ++ one_range st) o)) x y
    by true rest = refl
    by false rest = rest

-- A callee leaves the answer's bytes but for these.
pub callee_is : (l : Listing) (p : Proto) (a : Answer) (m : Bytes)
    → after_callee l p a m ≡ replaced l (left_alone l p) a.registers m
callee_is l p a m = fun_ext (λ s. fun_ext (λ o.
    ap (λ n. cond (s == register_space l) n (m s o)) (some_or p.keep l.stack o (m s o) (a.registers o))))

-- beside bytes of the frame
module _ (l : Listing) (own : ℕ → ℕ) (registers : register_space l ≢ first_ram l) where
  replaced_own : (spared : List Varnode) (r : ℕ → ℕ) (m : Bytes)
      → with_own l own (replaced l spared r m) ≡ replaced l spared r (with_own l own m)
  replaced_own spared r m = fun_ext (λ s. fun_ext (λ o.
      by s o (s == first_ram l && nat_lt o (stack_size l)) (s == register_space l) (in_some spared o) refl refl))
    where
      by : (s o : ℕ) (b c d : Bool)
          → (s == first_ram l && nat_lt o (stack_size l)) ≡ b
          → (s == register_space l) ≡ c
          → (let x = own (centred (stack_size l) o) in
          cond b x (cond c (cond d (m s o) (r o)) (m s o))
          ≡ cond c (cond d (cond b x (m s o)) (r o)) (cond b x (m s o)))
      by s o true true d e g =
          let there : s ≡ first_ram l = grind (arith, nat_tests) in
          let here : s ≡ register_space l = grind (arith, nat_tests) in
          absurd (registers (sym here ∙ there))
      by s o true false d e g = refl
      by s o false true true e g = refl
      by s o false true false e g = refl
      by s o false false d e g = refl

  result_by : (gives : Option Varnode) (n : ℕ) (m : Bytes)
      → IfSome gives (λ z. z.space ≡ register_space l)
      → with_own l own (with_result l gives n m) ≡ with_result l gives n (with_own l own m)
  result_by None n m at = refl
  result_by (Some z) n m at = written_else l own z (n % limit z.size) m (λ e. registers (sym at ∙ e))

  -- what is seen before the pop
  pub result_own : (p : Proto) (a : Answer) (m : Bytes)
      → IfSome p.gives (λ z. z.space ≡ register_space l)
      → with_own l own (with_result l p.gives a.word (after_callee l p a m))
      ≡ with_result l p.gives a.word (replaced l (left_alone l p) a.registers (with_own l own m))
  result_own p a m at =
      result_by p.gives a.word (after_callee l p a m) at
      ∙ ap (λ b. with_result l p.gives a.word (with_own l own b)) (callee_is l p a m)
      ∙ ap (with_result l p.gives a.word) (replaced_own (left_alone l p) a.registers m)

  -- and behind it
  pub pop_own : (sp : Varnode) (n : ℕ) (m : Bytes)
      → sp.space ≡ register_space l
      → with_own l own (with_pop l (Some sp) n m) ≡ with_pop l (Some sp) n (with_own l own m)
  pop_own sp n m at =
      let off : sp.space ≢ first_ram l = λ e. registers (sym at ∙ e) in
      written_else l own sp ((local_word l sp m + n) % limit sp.size) m off
      ∙ ap (λ w. with_word l sp ((w + n) % limit sp.size) (with_own l own m)) (sym (word_else l own m sp off))

-- The range of a result may keep its bytes until the result is written to it.
pub result_over : (l : Listing) (spared more : List Varnode) (r : ℕ → ℕ) (z : Varnode) (n : ℕ) (m : Bytes)
    → z.space ≡ register_space l
    → IsInside l z
    → ((o : ℕ) → (o < z.offset) ⊎ (z.offset + z.size ≤ o) → in_some more o ≡ in_some spared o)
    → with_word l z n (replaced l more r m) ≡ with_word l z n (replaced l spared r m)
result_over l spared more r z n m at inside same = fun_ext (λ t. fun_ext (λ p.
    let bs = bytes_in l z.space z.size n in
    let long : length bs ≡ z.size = length-word_bytes (is_big l z.space) z.size n in
    all_written (size_of l z.space) z.space z.offset bs (replaced l more r m) (replaced l spared r m)
    (omega (arith, inside, long)) (λ u q off. ⊎_elim
    (λ (ne : u ≢ z.space).
    let other : u ≢ register_space l = λ e. ne (e ∙ sym at) in
    replaced_else l more r m u q other ∙ sym (replaced_else l spared r m u q other))
    (λ side. let out : (q < z.offset) ⊎ (z.offset + z.size ≤ q) = ⊎_elim
    (λ (lt : q < z.offset). inl lt)
    (λ (ge : z.offset + length bs ≤ q). inr (omega (arith, ge, long)))
    side in
    ap (λ b. cond (u == register_space l) (cond b (m u q) (r q)) (m u q)) (same q out))
    off) t p))
