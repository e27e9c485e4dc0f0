-- The accesses of a listing's frame variables lie where its frame says.
use Rattle.std.proofs.Common.{◌≡◌, ℕ, zero, suc, ◌+◌, ◌%◌, ◌<◌, ◌≤◌, Bool, true, false, List, [], ◌∷◌, refl, sym, ap, ◌∙◌, subst, inl, inr, arith}
use Rattle.std.specs.Prelude.{nat_lt, ℤ, pos, ◌+ℤ◌}
use Rattle.std.proofs.lemmas.Bool.Decides.{nat_tests}
use Rattle.std.proofs.lemmas.Int.{ints}
use Rattle.bits_core.specs.Value.{limit}
use Rattle.pcode_model.specs.declared.listing.Place.{Place}
use Rattle.pcode_model.specs.declared.listing.Listing.{Listing}
use Rattle.pcode_model.specs.declared.frame.Frame as listed
use Rattle.pcode_model.specs.declared.frame.FrameAccess.{FrameAccess}
use Rattle.pcode_model.specs.declared.frame.FrameVariable.{FrameVariable}
use Rattle.pcode_model.specs.Spaces.{or, first_ram}
use Rattle.pcode_model.specs.Memory.{Bytes, offset_from}
use Rattle.pcode_model.specs.World.{Entry}
use Rattle.pcode_model.specs.Step.{layout, local_word, stack0}
use Rattle.pcode_model.specs.Frame.{frame_of, framed_in, is_byte_of, wrapped}
use Rattle.pcode_model.specs.Flow.{IsIn}
use Rattle.frame_law.specs.Aligned.{AllFramed, IsOwn}
use Rattle.frame_facts.specs.Facts.{offsets}
use Rattle.frame_facts.specs.Accesses.{IsByte, IsFrameAccess, IsVariableAccess, Same, signed_offset, stack_width, width_in}
use Rattle.frame_facts.specs.Listed.{IsFrame}
use Rattle.frame_runs.specs.Laws.{IsRun}
use Rattle.frame_runs.proofs.Words.{sum_again}
use Rattle.frame_facts.proofs.Prototypes.{offsets_are}
use Rattle.frame_runs.proofs.Runs.{Stands}
use Rattle.frame_facts.proofs.Numbers.{lies_above, more_by, next_sum, offset_back, wrapped_below, wrapped_signed, wrapped_sum}

-- ---- bytes of variables

framed_by : (size c : ℕ) (v : FrameVariable) (vs : List FrameVariable)
    → IsIn v vs
    → is_byte_of size v c ≡ true
    → framed_in size vs c ≡ true
framed_by size c v [] is h = absurd is
framed_by size c v (x ∷ vs) (inl e) h = ap (λ b. or b (framed_in size vs c)) (ap (λ
    (y : FrameVariable). is_byte_of size y c) (sym e) ∙ h)
framed_by size c v (x ∷ vs) (inr is) h = by (is_byte_of size x c) (framed_by size c v vs is h) where
  by : (b : Bool) → framed_in size vs c ≡ true → or b (framed_in size vs c) ≡ true
  by true h = refl
  by false h = h

module _ (l : Listing) (e : Entry) (fr : listed.Frame) (v : FrameVariable) (is : IsIn v fr.variables)
    (some : 0 < offsets l) where
  byte_framed : (d : ℕ) → d < v.size → is_byte_of (offsets l) v ((wrapped (offsets l) v.offset + d) % offsets l) ≡ true
  byte_framed d less =
      let w = wrapped (offsets l) v.offset in
      let below : w < offsets l = wrapped_below (offsets l) v.offset some in
      let low : d % offsets l < v.size = omega (arith, less, some) in
      let t : nat_lt (d % offsets l) v.size ≡ true = grind (arith, nat_tests) in
      ap (λ x. nat_lt x v.size) (lies_above (offsets l) w d some below) ∙ t

  -- so many bytes within a variable are its
  pub all_framed : (k d : ℕ)
      → d + k ≤ v.size
      → AllFramed (layout l (frame_of l fr) e) ((wrapped (offsets l) v.offset + d) % offsets l) k
  all_framed zero d h = tt
  all_framed (suc k) d h =
      let c = (wrapped (offsets l) v.offset + d) % offsets l in
      let P : ℕ → Type 0 = λ x. AllFramed (layout l (frame_of l fr) e) x k in (
        framed_by (offsets l) c v fr.variables is (byte_framed d (omega (arith, h))),
        subst P (sym (next_sum (offsets l) (wrapped (offsets l) v.offset) d some)) (all_framed k (suc d) (omega
            (arith, h))),
      )

-- ---- where an access lies

module _
    (l : Listing)
    (e : Entry)
    (evaluated : List Place)
    (fr : listed.Frame)
    (run : IsRun l e)
    (frame : IsFrame l [] evaluated fr)
    (a : FrameAccess)
    (own : IsVariableAccess l [] evaluated a)
    (b : Bytes)
    (stands : Stands l [] (stack0 l e) a.place b)
  where
    abbrev pub access : IsFrameAccess l [] evaluated a
    access = own.1.is_class.access

    some : 0 < offsets l
    some = let low = run.low in omega (arith, low)

    -- how far above the stack pointer's entry word
    above : ℕ
    above = (access.base + access.by.above) % offsets l

    lowest : above < offsets l
    unfolding above
    lowest = omega (arith, some)

    width : offsets l ≡ limit (stack_width l)
    width = let x = (access.fact.1.1).can a.place access.by.base access.base access.fact.1.0 in
        offsets_are l run.read x.stack x.is ∙ ap (λ o. limit (width_in o)) (sym x.is)

    is_above : wrapped (offsets l) a.offset ≡ above
    unfolding above
    is_above =
        let low : above < limit (stack_width l) = let h = lowest in omega (arith, h, width) in
        ap (wrapped (offsets l)) access.offset ∙ ap (λ n. wrapped n (signed_offset l above)) width
        ∙ wrapped_signed (stack_width l) above low

    -- its bytes are those of its variable
    framed : (k : ℕ) → a.size ≡ k → AllFramed (layout l (frame_of l fr) e) (wrapped (offsets l) a.offset) k
    framed zero long = tt
    framed (suc k) long =
        let v = own.0 in
        let has : IsIn v fr.variables = (frame.variables.each v).1 (a, own.1) in
        let byte : (o : ℤ) → IsByte a.offset a.size o → IsByte v.offset v.size o =
        λ o h. ((own.1.is_class.bytes o).1 (a, (Same a access, h))) in
        let first = byte a.offset (omega (arith, ints), omega (arith, ints, long)) in
        let last = byte (a.offset +ℤ pos k) (omega (arith, ints), omega (arith, ints, long)) in
        let d = more_by v.offset a.offset first.0 in
        let within : d.0 + suc k ≤ v.size = omega (arith, ints, d.1, last.1) in
        let P : ℕ → Type 0 = λ x. AllFramed (layout l (frame_of l fr) e) x (suc k) in
        subst P (sym (ap (wrapped (offsets l)) d.1 ∙ wrapped_sum (offsets l) v.offset d.0 some))
        (all_framed l e fr v has some (suc k) d.0 within)

    -- An access of a frame variable lies where the frame says, all its bytes being the variable's.
    pub lies : IsOwn (layout l (frame_of l fr) e) (wrapped (offsets l) a.offset) (first_ram l)
        ((local_word l access.by.base b + access.by.above) % offsets l) a.size
    unfolding above
    lies =
        let word : local_word l access.by.base b ≡ (stack0 l e + access.base) % offsets l =
        stands.facts access.by.base access.base access.fact in
        let address : (local_word l access.by.base b + access.by.above) % offsets l ≡ (stack0 l e + above) % offsets l =
        ap (λ w. (w + access.by.above) % offsets l) word
        ∙ sum_again (offsets l) (stack0 l e) access.base access.by.above in
        record {
          ram = refl;
          inside = omega (arith, some);
          offset = is_above ∙ offset_back (offsets l) (stack0 l e) above run.low lowest
              ∙ ap (offset_from (offsets l) (stack0 l e)) (sym address);
          framed = framed a.size refl;
        }
