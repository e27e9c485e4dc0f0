-- What an op reads.
use Rattle.std.proofs.Common.{◌≡◌, ℕ, zero, suc, ◌+◌, ◌<◌, Bool, true, false, List, [], ◌∷◌, ◌++◌, length, drop, get_or, map, Option, Some, None, Result, Ok, Err, refl, sym, ap, ◌∙◌, append_assoc, append-nil, add-one}
use Rattle.std.proofs.lemmas.List.{drop_more, map-append}
use Rattle.bits_core.specs.Bytes.{word_of}
use Rattle.bits_core.specs.declared.word.Word.{Word}
use Rattle.machine.specs.Trace.{End, Outside}
use Rattle.pcode_model.specs.declared.listing.Listing.{Listing}
use Rattle.pcode_model.specs.declared.listing.Storage.{Storage}
use Rattle.pcode_model.specs.declared.listing.Varnode.{Varnode}
use Rattle.pcode_model.specs.Memory.{Acts, Bytes, Frame, Layout, Whole, any_framed, any_hidden, unless, whole}
use Rattle.pcode_model.specs.Spaces.{bytes_at, next, kind_of, size_of}
use Rattle.pcode_model.specs.Step.{State, local_word, read_varnode, read_operand, read_all, with_first, all_read, argument, arguments, as_word, read_at}
use Rattle.run_world.specs.declared.shape.Shape.{Shape}
use Rattle.run_world.specs.Meaning.{value_of}
use Rattle.run_world.specs.Setting.{HasShape, size}
use Rattle.pcode_operands.specs.Words.{joined, got_words}

pub length_bytes_at : (n : ℕ) (f : ℕ → ℕ) (o k : ℕ) → length (bytes_at n f o k) ≡ k
length_bytes_at n f o zero = refl
length_bytes_at n f o (suc k) = ap suc (length_bytes_at n f (next n o) k)

pub local_is : (l : Listing) (v : Varnode) (shape : Shape) (m : Bytes) (bs : List ℕ)
    → HasShape l v.space shape
    → bs ≡ bytes_at (size shape) (m v.space) v.offset v.size
    → word_of shape.big bs ≡ local_word l v m
local_is l v shape m bs has e =
    ap (word_of shape.big) e
    ∙ ap (λ (z : ℕ). word_of shape.big (bytes_at z (m v.space) v.offset v.size)) has.size
    ∙ ap (λ (b : Bool). word_of b (bytes_at (size_of l v.space) (m v.space) v.offset v.size)) has.big

pub word_is : (l : Listing) (n : ℕ) (shape : Shape) (bs : List ℕ) (r : Result (List ℕ) End)
    → HasShape l n shape
    → Ok bs ≡ r
    → Ok (word_of shape.big bs) ≡ as_word l n r
word_is l n shape bs r has e = ap (λ (b : Bool). Ok (word_of b bs)) has.big ∙ ap (as_word l n) e

pub outside_is : (l : Listing) (n : ℕ) (r : Result (List ℕ) End) → Err Outside ≡ r → Err Outside ≡ as_word l n r
outside_is l n r e = ap (as_word l n) e

-- what was read, where it isn't outside, is as long as it was to be
pub got_length : (n : ℕ) (f : ℕ → ℕ) (o k : ℕ) (t : Bool) (bs : List ℕ)
    → Ok bs ≡ unless t Outside (Ok (bytes_at n f o k))
    → length bs ≡ k
got_length n f o k true bs e = absurd (cc)
got_length n f o k false bs e =
    let same : bs ≡ bytes_at n f o k = cc in
    ap (λ (xs : List ℕ). length xs) same ∙ length_bytes_at n f o k

-- the same where two tests come before it
got_twice : (n : ℕ) (f : ℕ → ℕ) (o k : ℕ) (t u : Bool) (bs : List ℕ)
    → Ok bs ≡ unless t Outside (unless u Outside (Ok (bytes_at n f o k)))
    → length bs ≡ k
got_twice n f o k true u bs e = absurd (cc)
got_twice n f o k false u bs e = got_length n f o k u bs e

pub read_length : (y : Layout) (own : Option ℕ) (s a k : ℕ) (w : Whole) (bs : List ℕ)
    → Ok bs ≡ read_at (whole y) own s a k w
    → length bs ≡ k
read_length y None s a k w bs e =
    got_twice (size_of y.listing s) (w.bytes s) a k (any_framed y s a k) (any_hidden y.listing w s a k) bs e
read_length y (Some c) s a k w bs e = got_length _ _ a k _ bs e

-- an access of a frame variable, whichever offset it has
pub read_own_is : (y : Layout) (own : Option ℕ) (c s a k : ℕ) (w : Whole) (r : Result (List ℕ) End)
    → own ≡ Some c
    → ((d : ℕ) → r ≡ (whole y).read_own a d k w)
    → r ≡ read_at (whole y) own s a k w
read_own_is y own c s a k w r e h = h c ∙ ap (λ (o : Option ℕ). read_at (whole y) o s a k w) (sym e)

pub joined_more : (ws : List Word) (w : Word) (r : Result (List ℕ) End)
    → joined ws (with_first (Ok w.value) r) ≡ joined (ws ++ w ∷ []) r
joined_more ws w (Ok ns) =
    ap Ok (sym (ap (λ (xs : List ℕ). xs ++ ns) (map-append value_of ws (w ∷ []))
    ∙ append_assoc (map value_of ws) (w.value ∷ []) ns))
joined_more ws w (Err e) = refl

pub joined_end : (ws : List Word) → joined ws (Ok []) ≡ got_words (Some ws)
joined_end ws = ap Ok (append-nil (map value_of ws))

module _ {M : Type 0} (m : Acts M) (l : Listing) (f : Frame) (s : State M) where
  pub all_more : (vs : List Varnode) (i : ℕ) (d : Varnode) (ws longer : List Word) (w : Word)
      (all : Result (List ℕ) End)
      → i < length vs
      → Ok w.value ≡ read_varnode m l (kind_of l (get_or vs i d).space) (get_or vs i d) s
      → longer ≡ ws ++ w ∷ []
      → joined ws (read_all m l f s (all_read (drop i vs))) ≡ all
      → joined longer (read_all m l f s (all_read (drop (i + 1) vs))) ≡ all
  all_more vs i d ws longer w all more read pushed before =
      ap (λ (xs : List Word). joined xs (read_all m l f s (all_read (drop (i + 1) vs)))) pushed
      ∙ sym (joined_more ws w (read_all m l f s (all_read (drop (i + 1) vs))))
      ∙ ap (λ (r : Result ℕ End). joined ws (with_first r (read_all m l f s (all_read (drop (i + 1) vs))))) read
      ∙ sym (ap (λ (xs : List Varnode). joined ws (read_all m l f s (all_read xs))) (drop_more vs i d more))
      ∙ before

  pub all_outside : (vs : List Varnode) (i : ℕ) (d : Varnode) (ws : List Word) (all : Result (List ℕ) End)
      → i < length vs
      → Err Outside ≡ read_varnode m l (kind_of l (get_or vs i d).space) (get_or vs i d) s
      → joined ws (read_all m l f s (all_read (drop i vs))) ≡ all
      → Err Outside ≡ all
  all_outside vs i d ws all more read before =
      ap (λ (r : Result ℕ End). joined ws (with_first r (read_all m l f s (all_read (drop (i + 1) vs))))) read
      ∙ sym (ap (λ (xs : List Varnode). joined ws (read_all m l f s (all_read xs))) (drop_more vs i d more))
      ∙ before

  pub arguments_more : (vs : List Storage) (i : ℕ) (d : Storage) (ws longer : List Word) (w : Word)
      (all : Result (List ℕ) End)
      → i < length vs
      → Ok w.value ≡ read_operand m l f s (argument i (get_or vs i d))
      → longer ≡ ws ++ w ∷ []
      → joined ws (read_all m l f s (arguments i (drop i vs))) ≡ all
      → joined longer (read_all m l f s (arguments (i + 1) (drop (i + 1) vs))) ≡ all
  arguments_more vs i d ws longer w all more read pushed before =
      ap (λ (xs : List Word). joined xs (read_all m l f s (arguments (i + 1) (drop (i + 1) vs)))) pushed
      ∙ sym (joined_more ws w (read_all m l f s (arguments (i + 1) (drop (i + 1) vs))))
      ∙ ap (λ (r : Result ℕ End). joined ws (with_first r (read_all m l f s (arguments (i + 1) (drop (i + 1) vs)))))
      read
      ∙ ap
      (λ (k : ℕ). joined ws (with_first (read_operand m l f s (argument i (get_or vs i d)))
      (read_all m l f s (arguments k (drop (i + 1) vs)))))
      (add-one i)
      ∙ sym (ap (λ (xs : List Storage). joined ws (read_all m l f s (arguments i xs))) (drop_more vs i d more))
      ∙ before

  pub arguments_outside : (vs : List Storage) (i : ℕ) (d : Storage) (ws : List Word) (all : Result (List ℕ) End)
      → i < length vs
      → Err Outside ≡ read_operand m l f s (argument i (get_or vs i d))
      → joined ws (read_all m l f s (arguments i (drop i vs))) ≡ all
      → Err Outside ≡ all
  arguments_outside vs i d ws all more read before =
      ap (λ (r : Result ℕ End). joined ws (with_first r (read_all m l f s (arguments (suc i) (drop (i + 1) vs))))) read
      ∙ sym (ap (λ (xs : List Storage). joined ws (read_all m l f s (arguments i xs))) (drop_more vs i d more))
      ∙ before
