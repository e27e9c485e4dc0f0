-- In a listing without a bad op each op breaks no rule.
use Rattle.std.proofs.Common.{◌≡◌, ◌⊎◌, ℕ, suc, Bool, true, false, List, [], ◌∷◌, Option, Some, None, refl, inl, inr, sym, subst}
use Rattle.std.specs.Prelude.{if◌then◌else◌}
use Rattle.pcode_model.specs.declared.listing.Op.{Op}
use Rattle.pcode_model.specs.declared.listing.Instruction.{Instruction}
use Rattle.pcode_model.specs.declared.listing.Listing.{Listing}
use Rattle.pcode_model.specs.declared.rules.OpWhy.{OpWhy}
use Rattle.pcode_model.specs.declared.rules.OpFault.{OpFault}
use Rattle.pcode_model.specs.Flow.{IsIn}
use Rattle.pcode_model.specs.Spaces.{or}
use Rattle.pcode_model.specs.Rules.{at_place, breaks, first_bad, first_bad_in, first_bad_of, first_broken, first_broken_of, rules}

pub neither : (a b : Bool) → or a b ≡ false → (a ≡ false) × (b ≡ false)
neither true b h = absurd (cc)
neither false b h = (refl, h)

pub either : (a b : Bool) → or a b ≡ true → (a ≡ true) ⊎ (b ≡ true)
either true b h = inl refl
either false b h = inr h

pub or_rest : (a b : Bool) → a ≡ false → or a b ≡ true → b ≡ true
or_rest true b e h = absurd (cc)
or_rest false b e h = h

-- an op breaks none of these rules
pub BreaksNone : Listing → Op → List OpWhy → Type 0
BreaksNone l op rs = (why : OpWhy) → IsIn why rs → breaks l op why ≡ false

no_some : {A : Type 0} (x : A) → Some x ≡ None → ⊥
no_some x h = cc

untaken : (b : Bool) (why : OpWhy) (rest : Option OpWhy)
    → (if b then Some why else rest) ≡ None
    → (b ≡ false) × (rest ≡ None)
untaken true why rest h = absurd (no_some why h)
untaken false why rest h = (refl, h)

pub none_broken : (l : Listing) (op : Op) (rs : List OpWhy)
    → first_broken_of l op rs ≡ None
    → (why : OpWhy)
    → IsIn why rs
    → breaks l op why ≡ false
none_broken l op [] h why is = absurd is
none_broken l op (r ∷ rs) h why (inl e) =
    let P : OpWhy → Type 0 = λ w. breaks l op w ≡ false in subst P (sym e) (untaken _ _ _ h).0
none_broken l op (r ∷ rs) h why (inr is) = none_broken l op rs (untaken _ _ _ h).1 why is

placed : (a n : ℕ) (w : Option OpWhy) (rest : Option OpFault) → at_place a n w rest ≡ None → (w ≡ None) × (rest ≡ None)
placed a n None rest h = (refl, h)
placed a n (Some why) rest h = absurd (no_some _ h)

of_instruction : (l : Listing) (a n : ℕ) (ops : List Op) (rest : Option OpFault)
    → first_bad_of l a n ops rest ≡ None
    → rest ≡ None
of_instruction l a n [] rest h = h
of_instruction l a n (op ∷ ops) rest h = of_instruction l a (suc n) ops rest (placed a n (first_broken l op) _ h).1

in_instruction : (l : Listing) (a n : ℕ) (ops : List Op) (rest : Option OpFault)
    → first_bad_of l a n ops rest ≡ None
    → (op : Op)
    → IsIn op ops
    → first_broken l op ≡ None
in_instruction l a n [] rest h op is = absurd is
in_instruction l a n (x ∷ ops) rest h op (inl e) =
    let P : Op → Type 0 = λ y. first_broken l y ≡ None in subst P (sym e) (placed a n (first_broken l x) _ h).0
in_instruction l a n (x ∷ ops) rest h op (inr is) =
    in_instruction l a (suc n) ops rest (placed a n (first_broken l x) _ h).1 op is

pub in_code : (l : Listing) (code : List Instruction)
    → first_bad_in l code ≡ None
    → (i : Instruction)
    → IsIn i code
    → (op : Op)
    → IsIn op i.ops
    → first_broken l op ≡ None
in_code l [] h i is op isop = absurd is
in_code l (j ∷ rest) h i (inl e) op isop =
    let P : Instruction → Type 0 = λ x. IsIn op x.ops in in_instruction l j.address 0 j.ops _ h op (subst P e isop)
in_code l (j ∷ rest) h i (inr is) op isop = in_code l rest (of_instruction l j.address 0 j.ops _ h) i is op isop

pub breaks_none : (l : Listing)
    → first_bad l ≡ None
    → (i : Instruction)
    → IsIn i l.code
    → (op : Op)
    → IsIn op i.ops
    → (why : OpWhy)
    → IsIn why rules
    → breaks l op why ≡ false
breaks_none l h i is op isop why isr = none_broken l op rules (in_code l l.code h i is op isop) why isr
