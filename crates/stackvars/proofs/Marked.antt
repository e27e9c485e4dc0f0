-- The marks of a listing's line are the ends of its accesses and of its further cuts.
use Rattle.std.proofs.Common.{◌≡◌, ◌∙◌, ℕ, ◌+◌, ◌<◌, ◌≤◌, List, [], ◌∷◌, ◌++◌, refl, sym, ap, subst, inl, inr, ⊎_elim, ◌⊎◌, arith, Some, None}
use Rattle.std.proofs.lemmas.Option.{same_Some}
use Rattle.pcode_model.specs.declared.listing.Varnode.{Varnode}
use Rattle.pcode_model.specs.declared.listing.Listing.{Listing}
use Rattle.pcode_model.specs.declared.storage.ParamStorage.{ParamStorage}
use Rattle.pcode_model.specs.declared.storage.ParamStorage.TheVariants as P
use Rattle.pcode_model.specs.declared.atoms.Atom.{Atom}
use Rattle.pcode_model.specs.declared.flow.Block.{Block}
use Rattle.pcode_model.specs.declared.frame.Frame.{Frame}
use Rattle.pcode_model.specs.declared.frame.FrameAccess.{FrameAccess}
use Rattle.pcode_model.specs.Spaces.{register_space, unique_space}
use Rattle.pcode_model.specs.Step.{proto_of}
use Rattle.pcode_model.specs.Flow.{IsFlow, IsIn}
use Rattle.pcode_model.specs.Atoms.{Accesses, Cuts, IsAccessed, IsFrameAccess, Range, argument_ranges, kept_ranges}
use Rattle.pcode_model.specs.Atoms as model
use Rattle.pcode_model.proofs.Members.{behind, in_either, in_front}
use Rattle.stackvars.specs.declared.sweep.Mark.{Mark}
use Rattle.stackvars.specs.Collected.{atoms_in, collected, frame_ranges, range, range_at}
use Rattle.stackvars.specs.Cuts.{begin, cut_marks, mark, marks, more_cuts, opens}
use Rattle.stackvars.specs.Sweep.{IsMarked, IsUnder}
use Rattle.stackvars.proofs.Members.{collected_accessed, collected_all}

abbrev pub register : ℕ → ℕ → Range
register o k = model.range (P.Register o) k

abbrev pub unique : ℕ → ℕ → Range
unique o k = model.range (P.Unique o) k

abbrev pub last : Range → ℕ
last r = begin r.storage + r.size

-- a number is an end of a range on the line
abbrev pub Bounds : Range → ℕ → Type 0
Bounds r n = (n ≡ begin r.storage) ⊎ (n ≡ last r)

-- ---- the accesses of the frame

-- one of these accesses has this range
abbrev pub OneOf : List FrameAccess → Atom → Type 0
OneOf xs a = (x : FrameAccess) × (IsIn x xs × (a ≡ model.range (P.Stack x.offset) x.size))

pub in_frame : (xs : List FrameAccess) (a : Atom) → IsIn a (frame_ranges xs) → OneOf xs a
in_frame [] a is = absurd is
in_frame (x ∷ xs) a (inl e) = (x, (inl refl, e))
in_frame (x ∷ xs) a (inr is) = let r = in_frame xs a is in (r.0, (inr r.1.0, r.1.1))

frame_in : (xs : List FrameAccess) (x : FrameAccess)
    → IsIn x xs
    → IsIn (model.range (P.Stack x.offset) x.size) (frame_ranges xs)
frame_in [] x is = absurd is
frame_in (y ∷ xs) x (inl e) = inl (ap (λ (z : FrameAccess). model.range (P.Stack z.offset) z.size) e)
frame_in (y ∷ xs) x (inr is) = inr (frame_in xs x is)

-- ---- the collected accesses

module _
    (l : Listing)
    (bs : List Block)
    (flow : IsFlow l [] bs)
    (differ : register_space l ≡ unique_space l → ⊥)
    (f : Frame) where
  abbrev pub Accessed : Range → Type 0
  Accessed r = IsAccessed l [] f r

  accessed_by : (s : ParamStorage) (k : ℕ) (v : Varnode)
      → range_at l s k ≡ Some v
      → Accesses l [] v
      → Accessed (model.range s k)
  accessed_by (P.Register o) k v e acc = subst (λ x. Accesses l [] x) (sym (same_Some _ v e)) acc
  accessed_by (P.Unique o) k v e acc = subst (λ x. Accesses l [] x) (sym (same_Some _ v e)) acc
  accessed_by (P.Stack o) k v e acc = absurd (none e) where
    none : None ≡ Some v → ⊥
    none e = cc

  by_op : (a : Atom) → IsIn a (atoms_in l bs) → Accessed a
  by_op a is = let r = collected_accessed l bs flow a is in accessed_by a.storage a.size r.0 r.1.0 r.1.1

  by_frame : (a : Atom) → IsIn a (frame_ranges f.accesses) → Accessed a
  by_frame a is =
      let r = in_frame f.accesses a is in
      subst Accessed (sym r.1.1) (r.0, (r.1.0, (refl, refl)))

  -- what is collected is accessed
  pub is_accessed : (a : Atom) → IsIn a (collected l bs f) → Accessed a
  is_accessed a is =
      ⊎_elim (λ h. by_op a h) (λ h. by_frame a h) (in_either (atoms_in l bs) (frame_ranges f.accesses) a is)

  is_register : (s : ParamStorage) (j o k : ℕ)
      → range_at l s j ≡ Some (range (register_space l) o k)
      → model.range s j ≡ register o k
  is_register (P.Register p) j o k e =
      let f = same_Some _ _ e in
      let at : p ≡ o = ap (λ (v : Varnode). v.offset) f in
      let size : j ≡ k = ap (λ (v : Varnode). v.size) f in
      ap (λ n. register n j) at ∙ ap (λ n. register o n) size
  is_register (P.Unique p) j o k e =
      let f = same_Some _ _ e in absurd (differ (sym (ap (λ (v : Varnode). v.space) f)))
  is_register (P.Stack p) j o k e = absurd (cc)

  is_unique : (s : ParamStorage) (j o k : ℕ)
      → range_at l s j ≡ Some (range (unique_space l) o k)
      → model.range s j ≡ unique o k
  is_unique (P.Register p) j o k e =
      let f = same_Some _ _ e in absurd (differ (ap (λ (v : Varnode). v.space) f))
  is_unique (P.Unique p) j o k e =
      let f = same_Some _ _ e in
      let at : p ≡ o = ap (λ (v : Varnode). v.offset) f in
      let size : j ≡ k = ap (λ (v : Varnode). v.size) f in
      ap (λ n. unique n j) at ∙ ap (λ n. unique o n) size
  is_unique (P.Stack p) j o k e = absurd (cc)

  collected_by : (s : ParamStorage) (k : ℕ)
      → Accessed (model.range s k)
      → IsIn (model.range s k) (collected l bs f)
  collected_by (P.Register o) k acc =
      let r = collected_all l bs flow (range (register_space l) o k) acc in
      in_front (atoms_in l bs) (frame_ranges f.accesses) (register o k)
      (subst (λ (a : Atom). IsIn a (atoms_in l bs)) (is_register r.0.storage r.0.size o k r.1.1) r.1.0)
  collected_by (P.Unique o) k acc =
      let r = collected_all l bs flow (range (unique_space l) o k) acc in
      in_front (atoms_in l bs) (frame_ranges f.accesses) (unique o k)
      (subst (λ (a : Atom). IsIn a (atoms_in l bs)) (is_unique r.0.storage r.0.size o k r.1.1) r.1.0)
  collected_by (P.Stack o) k acc =
      let same : model.range (P.Stack acc.0.offset) acc.0.size ≡ model.range (P.Stack o) k =
      ap (λ x. model.range (P.Stack x) acc.0.size) acc.1.1.0 ∙ ap (λ n. model.range (P.Stack o) n) acc.1.1.1 in
      behind (atoms_in l bs) (frame_ranges f.accesses) (model.range (P.Stack o) k)
      (subst (λ (a : Atom). IsIn a (frame_ranges f.accesses)) same (frame_in f.accesses acc.0 acc.1.0))

  -- what is accessed is collected
  pub is_collected : (a : Atom) → Accessed a → IsIn a (collected l bs f)
  is_collected a acc = collected_by a.storage a.size acc

-- ---- the marks of accesses

-- the mark where an access begins, or where it ends
abbrev IsMarkOf : Atom → Mark → Type 0
IsMarkOf a m = (m ≡ mark (begin a.storage) (last a)) ⊎ (m ≡ mark (last a) 0)

opened : (xs : List Atom) (m : Mark) → IsIn m (opens xs) → (a : Atom) × (IsIn a xs × IsMarkOf a m)
opened [] m is = absurd is
opened (a ∷ xs) m (inl e) = (a, (inl refl, inl e))
opened (a ∷ xs) m (inr (inl e)) = (a, (inl refl, inr e))
opened (a ∷ xs) m (inr (inr is)) = let r = opened xs m is in (r.0, (inr r.1.0, r.1.1))

opens_begin : (xs : List Atom) (a : Atom) → IsIn a xs → IsIn (mark (begin a.storage) (last a)) (opens xs)
opens_begin [] a is = absurd is
opens_begin (x ∷ xs) a (inl e) = inl (ap (λ (y : Atom). mark (begin y.storage) (last y)) e)
opens_begin (x ∷ xs) a (inr is) = inr (inr (opens_begin xs a is))

opens_end : (xs : List Atom) (a : Atom) → IsIn a xs → IsIn (mark (last a) 0) (opens xs)
opens_end [] a is = absurd is
opens_end (x ∷ xs) a (inl e) = inr (inl (ap (λ (y : Atom). mark (last y) 0) e))
opens_end (x ∷ xs) a (inr is) = inr (inr (opens_end xs a is))

-- ---- the marks of further cuts

abbrev IsCutOf : Range → Mark → Type 0
IsCutOf r m = (m ≡ mark (begin r.storage) 0) ⊎ (m ≡ mark (last r) 0)

cut_by : (rs : List Range) (m : Mark) → IsIn m (more_cuts rs) → (r : Range) × (IsIn r rs × IsCutOf r m)
cut_by [] m is = absurd is
cut_by (r ∷ rs) m (inl e) = (r, (inl refl, inl e))
cut_by (r ∷ rs) m (inr (inl e)) = (r, (inl refl, inr e))
cut_by (r ∷ rs) m (inr (inr is)) = let r = cut_by rs m is in (r.0, (inr r.1.0, r.1.1))

cuts_begin : (rs : List Range) (r : Range) → IsIn r rs → IsIn (mark (begin r.storage) 0) (more_cuts rs)
cuts_begin [] r is = absurd is
cuts_begin (x ∷ rs) r (inl e) = inl (ap (λ (y : Range). mark (begin y.storage) 0) e)
cuts_begin (x ∷ rs) r (inr is) = inr (inr (cuts_begin rs r is))

cuts_end : (rs : List Range) (r : Range) → IsIn r rs → IsIn (mark (last r) 0) (more_cuts rs)
cuts_end [] r is = absurd is
cuts_end (x ∷ rs) r (inl e) = inr (inl (ap (λ (y : Range). mark (last y) 0) e))
cuts_end (x ∷ rs) r (inr is) = inr (inr (cuts_end rs r is))

pub cuts_of_both : (rs qs : List Range) → more_cuts (rs ++ qs) ≡ more_cuts rs ++ more_cuts qs
cuts_of_both [] qs = refl
cuts_of_both (r ∷ rs) qs = ap (λ (ms : List Mark). cut_marks r ++ ms) (cuts_of_both rs qs)

-- ---- the line of a listing

module _
    (l : Listing)
    (bs : List Block)
    (flow : IsFlow l [] bs)
    (differ : register_space l ≡ unique_space l → ⊥)
    (f : Frame) where
  abbrev found : List Range
  found = collected l bs f

  abbrev accesses : List Mark
  accesses = opens found

  abbrev own : List Range
  own = argument_ranges (proto_of l None).args

  abbrev kept : List Range
  kept = kept_ranges l.protos

  abbrev pub line : List Mark
  line = marks l found

  in_accesses : (m : Mark) → IsIn m accesses → IsIn m line
  in_accesses m is = in_front (accesses ++ more_cuts own) (more_cuts kept) m (in_front accesses (more_cuts own) m is)

  in_own : (m : Mark) → IsIn m (more_cuts own) → IsIn m line
  in_own m is = in_front (accesses ++ more_cuts own) (more_cuts kept) m (behind accesses (more_cuts own) m is)

  in_kept : (m : Mark) → IsIn m (more_cuts kept) → IsIn m line
  in_kept m is = behind (accesses ++ more_cuts own) (more_cuts kept) m is

  -- a mark is one of an access, of an argument, or of a range that is kept
  in_line : (m : Mark) → IsIn m line → IsIn m accesses ⊎ (IsIn m (more_cuts own) ⊎ IsIn m (more_cuts kept))
  in_line m is =
      ⊎_elim
      (λ h. ⊎_elim (λ k. inl k) (λ k. inr (inl k)) (in_either accesses (more_cuts own) m h))
      (λ h. inr (inr h))
      (in_either (accesses ++ more_cuts own) (more_cuts kept) m is)

  -- both ends of a range are marked
  abbrev pub HasMarks : Range → Type 0
  HasMarks r = IsMarked line (begin r.storage) × IsMarked line (last r)

  has_marks : (rs : List Range) (r : Range)
      → ((m : Mark) → IsIn m (more_cuts rs) → IsIn m line)
      → IsIn r rs
      → HasMarks r
  has_marks rs r there is = (
    (mark (begin r.storage) 0, (there _ (cuts_begin rs r is), refl)),
    (mark (last r) 0, (there _ (cuts_end rs r is), refl)),
  )

  -- the mark where an access begins
  pub access_marked : (r : Range) → IsAccessed l [] f r → IsIn (mark (begin r.storage) (last r)) line
  access_marked r acc = in_accesses _ (opens_begin found r (is_collected l bs flow differ f r acc))

  -- the ends of what cuts are marked
  pub cuts_marked : (r : Range) → Cuts l [] f r → HasMarks r
  cuts_marked r (inl acc) =
      let is : IsIn r found = is_collected l bs flow differ f r acc in (
        (mark (begin r.storage) (last r), (in_accesses _ (opens_begin found r is), refl)),
        (mark (last r) 0, (in_accesses _ (opens_end found r is), refl)),
      )
  cuts_marked r (inr (inl is)) = has_marks own r in_own is
  cuts_marked r (inr (inr is)) = has_marks kept r in_kept is

  -- a range that cuts, with an end there
  pub record CutBy (n : ℕ) : Type 0 where
    pub range : Range
    pub cuts : Cuts l [] f range
    pub bounds : Bounds range n

  by_access : (m : Mark) (n : ℕ) → IsIn m accesses → m.position ≡ n → CutBy n
  by_access m n is at =
      let r = opened found m is in
      record {
        range = r.0;
        cuts = inl (is_accessed l bs flow differ f r.0 r.1.0);
        bounds =
            ⊎_elim
            (λ e. inl (sym at ∙ ap (λ (x : Mark). x.position) e))
            (λ e. inr (sym at ∙ ap (λ (x : Mark). x.position) e))
            r.1.1;
      }

  by_cut : (rs : List Range) (m : Mark) (n : ℕ)
      → ((r : Range) → IsIn r rs → Cuts l [] f r)
      → IsIn m (more_cuts rs)
      → m.position ≡ n
      → CutBy n
  by_cut rs m n cut is at =
      let r = cut_by rs m is in
      record {
        range = r.0;
        cuts = cut r.0 r.1.0;
        bounds =
            ⊎_elim
            (λ e. inl (sym at ∙ ap (λ (x : Mark). x.position) e))
            (λ e. inr (sym at ∙ ap (λ (x : Mark). x.position) e))
            r.1.1;
      }

  -- what is marked is an end of a range that cuts
  pub marked_cut : (n : ℕ) → IsMarked line n → CutBy n
  marked_cut n (m, (is, at)) =
      ⊎_elim
      (λ h. by_access m n h at)
      (λ h. ⊎_elim
      (λ k. by_cut own m n (λ r j. inr (inl j)) k at)
      (λ k. by_cut kept m n (λ r j. inr (inr j)) k at)
      h)
      (in_line m is)

  -- an access that goes on past a place of the line
  pub record Over (n : ℕ) : Type 0 where
    pub range : Range
    pub accessed : IsAccessed l [] f range
    pub from : begin range.storage ≤ n
    pub past : n < last range

  no_reach : (m : Mark) (n : ℕ) → m.reach ≡ 0 → n < m.reach → ⊥
  no_reach m n e past = omega (arith, e, past)

  over_access : (m : Mark) (n : ℕ) → IsIn m accesses → m.position ≤ n → n < m.reach → Over n
  over_access m n is from past =
      let r = opened found m is in
      ⊎_elim
      (λ e.
      let at : m.position ≡ begin r.0.storage = ap (λ (x : Mark). x.position) e in
      let end : m.reach ≡ last r.0 = ap (λ (x : Mark). x.reach) e in
      record {
        range = r.0;
        accessed = is_accessed l bs flow differ f r.0 r.1.0;
        from = subst (λ x. x ≤ n) at from;
        past = subst (λ x. n < x) end past;
      })
      (λ e. absurd (no_reach m n (ap (λ (x : Mark). x.reach) e) past))
      r.1.1

  none_over : (rs : List Range) (m : Mark) (n : ℕ) → IsIn m (more_cuts rs) → n < m.reach → ⊥
  none_over rs m n is past =
      let r = cut_by rs m is in
      ⊎_elim
      (λ e. no_reach m n (ap (λ (x : Mark). x.reach) e) past)
      (λ e. no_reach m n (ap (λ (x : Mark). x.reach) e) past)
      r.1.1

  -- under a stretch there is an access
  pub under_access : (n : ℕ) → IsUnder line n → Over n
  under_access n (m, (is, (from, past))) =
      ⊎_elim
      (λ h. over_access m n h from past)
      (λ h. ⊎_elim (λ k. absurd (none_over own m n k past)) (λ k. absurd (none_over kept m n k past)) h)
      (in_line m is)
