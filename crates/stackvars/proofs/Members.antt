-- The collected atoms are those of the ranges that are accessed.
use Rattle.std.proofs.Common.{◌≡◌, ◌∙◌, ℕ, Bool, true, false, List, [], ◌∷◌, ◌++◌, refl, sym, ap, subst, inl, inr, ⊎_elim, ◌⊎◌, append_assoc, eq-eqb, Option, Some, None}
use Rattle.std.specs.Prelude.{cond, ◌==◌}
use Rattle.std.specs.List.{All, AllByRecursion}
use Rattle.std.specs.List.Sorted.{IsPermutation}
use Rattle.std.proofs.lemmas.Bool.{cases_eq, ne_eqb}
use Rattle.std.proofs.lemmas.List.Elements.{All-from_recursion, recursion_from_All}
use Rattle.std.proofs.lemmas.List.Sorted.{All-permutation, IsPermutation-sym}
use Rattle.pcode_model.specs.declared.listing.Place.{Place}
use Rattle.pcode_model.specs.declared.listing.Varnode.{Varnode}
use Rattle.pcode_model.specs.declared.listing.Listing.{Listing}
use Rattle.pcode_model.specs.declared.flow.Block.{Block}
use Rattle.pcode_model.specs.declared.storage.ParamStorage.{ParamStorage}
use Rattle.pcode_model.specs.declared.storage.ParamStorage.TheVariants as P
use Rattle.pcode_model.specs.declared.atoms.Atom.{Atom}
use Rattle.pcode_model.specs.Spaces.{register_space, unique_space}
use Rattle.pcode_model.specs.Flow.{IsFlow, IsIn, places_of}
use Rattle.pcode_model.specs.Atoms.{Accesses, IsLocal, ranges_at}
use Rattle.pcode_model.proofs.Members.{behind, in_either, in_front, of_member}
use Rattle.stackvars.specs.Collected.{atom_at, atom_of, atoms_at, atoms_in, atoms_of, range, range_at, range_of, storage_of}

-- ---- members of lists

-- What holds of each member holds along the list.
pub to_recursion : {A : Type 0} (Q : A → Type 0) (xs : List A) → ((a : A) → IsIn a xs → Q a) → AllByRecursion Q xs
to_recursion Q [] h = tt
to_recursion Q (x ∷ xs) h = (h x (inl refl), to_recursion Q xs (λ a is. h a (inr is)))

pub permuted : {A : Type 0} (xs ys : List A) → IsPermutation xs ys → (a : A) → IsIn a xs → IsIn a ys
permuted {A} xs ys moved a is =
    let Q : A → Type 0 = λ x. IsIn x ys in
    let all : All Q ys = All-from_recursion Q ys (to_recursion Q ys (λ x h. h)) in
    of_member Q a xs (recursion_from_All Q xs (All-permutation Q ys xs (IsPermutation-sym xs ys moved) all)) is

-- ---- one range

-- where a range stands, by its space
abbrev IsStored : Listing → Varnode → Type 0
IsStored l v =
    ((v.space ≡ register_space l) × (storage_of l v ≡ Some (P.Register v.offset)))
    ⊎ (((v.space ≡ unique_space l) × (storage_of l v ≡ Some (P.Unique v.offset)))
    ⊎ ((IsLocal l v.space → ⊥) × (storage_of l v ≡ None)))

is_stored : (l : Listing) (v : Varnode) → IsStored l v
is_stored l v =
    let r : Option ParamStorage = Some (P.Register v.offset) in
    let u : Option ParamStorage = Some (P.Unique v.offset) in
    let n : Option ParamStorage = None in
    ⊎_elim
    (λ e.
    let t : (v.space == register_space l) ≡ true = eq-eqb v.space (register_space l) e in
    inl (e, ap (λ (b : Bool). cond b r (cond (v.space == unique_space l) u n)) t))
    (λ ne. let t : (v.space == register_space l) ≡ false = ne_eqb v.space (register_space l) ne in ⊎_elim
    (λ f.
    let s : (v.space == unique_space l) ≡ true = eq-eqb v.space (unique_space l) f in
    inr (inl
    (f, ap (λ (b : Bool). cond b r (cond (v.space == unique_space l) u n)) t ∙ ap (λ (b : Bool). cond b u n) s)))
    (λ nf.
    let s : (v.space == unique_space l) ≡ false = ne_eqb v.space (unique_space l) nf in
    inr (inr (
      λ is. ⊎_elim ne nf is,
      ap (λ (b : Bool). cond b r (cond (v.space == unique_space l) u n)) t ∙ ap (λ (b : Bool). cond b u n) s,
    )))
    (cases_eq v.space (unique_space l)))
    (cases_eq v.space (register_space l))

-- the atom has this range, which is local
pub record Stands (l : Listing) (v : Varnode) (a : Atom) : Type 0 where
  pub is_local : IsLocal l v.space
  pub range : range_of l a ≡ Some v

register_range : (l : Listing) (v : Varnode)
    → v.space ≡ register_space l
    → range_at l (P.Register v.offset) v.size ≡ Some v
register_range l v e = ap (λ (s : ℕ). Some (range s v.offset v.size)) (sym e)

unique_range : (l : Listing) (v : Varnode) → v.space ≡ unique_space l → range_at l (P.Unique v.offset) v.size ≡ Some v
unique_range l v e = ap (λ (s : ℕ). Some (range s v.offset v.size)) (sym e)

only : (l : Listing) (v : Varnode) (a : Atom) (s : ParamStorage)
    → storage_of l v ≡ Some s
    → IsIn a (atom_of l v)
    → IsLocal l v.space
    → range_at l s v.size ≡ Some v
    → Stands l v a
only l v a s e h is r =
    let k : IsIn a (record { storage = s; size = v.size } ∷ []) =
    subst (λ (o : Option ParamStorage). IsIn a (atom_at o v.size)) e h in
    ⊎_elim
    (λ same. record {
      is_local = is;
      range = ap (λ (b : Atom). range_of l b) same ∙ r;
    })
    (λ bad. absurd bad)
    k

atom_stands : (l : Listing) (v : Varnode) (a : Atom) → IsIn a (atom_of l v) → Stands l v a
atom_stands l v a h =
    ⊎_elim
    (λ p. only l v a (P.Register v.offset) p.1 h (inl p.0) (register_range l v p.0))
    (λ o. ⊎_elim
    (λ p. only l v a (P.Unique v.offset) p.1 h (inr p.0) (unique_range l v p.0))
    (λ p. let bad : ⊥ = subst (λ (x : Option ParamStorage). IsIn a (atom_at x v.size)) p.1 h in absurd bad)
    o)
    (is_stored l v)

-- an atom of a list with this range
pub record Listed (l : Listing) (xs : List Atom) (v : Varnode) : Type 0 where
  pub atom : Atom
  pub member : IsIn atom xs
  pub range : range_of l atom ≡ Some v

sole : (l : Listing) (v : Varnode) (s : ParamStorage)
    → storage_of l v ≡ Some s
    → range_at l s v.size ≡ Some v
    → Listed l (atom_of l v) v
sole l v s e r = record {
  atom = record { storage = s; size = v.size };
  member =
      subst (λ (o : Option ParamStorage). IsIn (record { storage = s; size = v.size }) (atom_at o v.size)) (sym e)
      (inl refl);
  range = r;
}

atom_listed : (l : Listing) (v : Varnode) → IsLocal l v.space → Listed l (atom_of l v) v
atom_listed l v is =
    ⊎_elim
    (λ p. sole l v (P.Register v.offset) p.1 (register_range l v p.0))
    (λ o. ⊎_elim
    (λ p. sole l v (P.Unique v.offset) p.1 (unique_range l v p.0))
    (λ p. absurd (p.0 is))
    o)
    (is_stored l v)

-- ---- the ranges at places

-- the range of an atom is one of these
record OneOf (l : Listing) (vs : List Varnode) (a : Atom) : Type 0 where
  of : Varnode
  member : IsIn of vs
  stands : Stands l of a

one_of : (l : Listing) (vs : List Varnode) (a : Atom) → IsIn a (atoms_of l vs) → OneOf l vs a
one_of l [] a h = absurd h
one_of l (v ∷ vs) a h =
    ⊎_elim
    (λ k. record { of = v; member = inl refl; stands = atom_stands l v a k })
    (λ k. let r = one_of l vs a k in record { of = r.of; member = inr r.member; stands = r.stands })
    (in_either (atom_of l v) (atoms_of l vs) a h)

listed_of : (l : Listing) (vs : List Varnode) (v : Varnode) → IsIn v vs → IsLocal l v.space → Listed l (atoms_of l vs) v
listed_of l [] v h is = absurd h
listed_of l (x ∷ vs) v (inl e) is =
    let r = atom_listed l v is in
    let f : IsIn r.atom (atom_of l x) = subst (λ (y : Varnode). IsIn r.atom (atom_of l y)) e r.member in
    record { atom = r.atom; member = in_front (atom_of l x) (atoms_of l vs) r.atom f; range = r.range }
listed_of l (x ∷ vs) v (inr h) is =
    let r = listed_of l vs v h is in
    record { atom = r.atom; member = behind (atom_of l x) (atoms_of l vs) r.atom r.member; range = r.range }

record OneAt (l : Listing) (ps : List Place) (a : Atom) : Type 0 where
  place : Place
  member : IsIn place ps
  range : OneOf l (ranges_at l [] place) a

one_at : (l : Listing) (ps : List Place) (a : Atom) → IsIn a (atoms_at l ps) → OneAt l ps a
one_at l [] a h = absurd h
one_at l (p ∷ ps) a h =
    ⊎_elim
    (λ k. record { place = p; member = inl refl; range = one_of l (ranges_at l [] p) a k })
    (λ k. let r = one_at l ps a k in record { place = r.place; member = inr r.member; range = r.range })
    (in_either (atoms_of l (ranges_at l [] p)) (atoms_at l ps) a h)

listed_at : (l : Listing) (ps : List Place) (p : Place) (v : Varnode)
    → IsIn p ps
    → IsIn v (ranges_at l [] p)
    → IsLocal l v.space
    → Listed l (atoms_at l ps) v
listed_at l [] p v h k is = absurd h
listed_at l (q ∷ ps) p v (inl e) k is =
    let r = listed_of l (ranges_at l [] p) v k is in
    let f : IsIn r.atom (atoms_of l (ranges_at l [] q)) =
    subst (λ (y : Place). IsIn r.atom (atoms_of l (ranges_at l [] y))) e r.member in
    record
    { atom = r.atom; member = in_front (atoms_of l (ranges_at l [] q)) (atoms_at l ps) r.atom f; range = r.range }
listed_at l (q ∷ ps) p v (inr h) k is =
    let r = listed_at l ps p v h k is in
    record {
      atom = r.atom;
      member = behind (atoms_of l (ranges_at l [] q)) (atoms_at l ps) r.atom r.member;
      range = r.range;
    }

-- ---- the blocks

atoms_at_both : (l : Listing) (ps qs : List Place) → atoms_at l (ps ++ qs) ≡ atoms_at l ps ++ atoms_at l qs
atoms_at_both l [] qs = refl
atoms_at_both l (p ∷ ps) qs =
    ap (λ (xs : List Atom). atoms_of l (ranges_at l [] p) ++ xs) (atoms_at_both l ps qs)
    ∙ sym (append_assoc (atoms_of l (ranges_at l [] p)) (atoms_at l ps) (atoms_at l qs))

blocks_places : (l : Listing) (bs : List Block) → atoms_in l bs ≡ atoms_at l (places_of bs)
blocks_places l [] = refl
blocks_places l (b ∷ bs) =
    ap (λ (xs : List Atom). atoms_at l b.places ++ xs) (blocks_places l bs)
    ∙ sym (atoms_at_both l b.places (places_of bs))

-- each atom of the list has an accessed range
abbrev pub AreAccesses : Listing → List Atom → Type 0
AreAccesses l xs = (a : Atom) → IsIn a xs → (v : Varnode) × ((range_of l a ≡ Some v) × Accesses l [] v)

abbrev pub HasAccesses : Listing → List Atom → Type 0
HasAccesses l xs = (v : Varnode) → Accesses l [] v → (a : Atom) × (IsIn a xs × (range_of l a ≡ Some v))

pub collected_accessed : (l : Listing) (bs : List Block) → IsFlow l [] bs → AreAccesses l (atoms_in l bs)
collected_accessed l bs flow a h =
    let r = one_at l (places_of bs) a (subst (λ (xs : List Atom). IsIn a xs) (blocks_places l bs) h) in (
      r.range.of,
      (
        r.range.stands.range,
        record {
          at = r.place;
          reached = (flow.each r.place).0 r.member;
          range = r.range.member;
          is_local = r.range.stands.is_local;
        },
      ),
    )

pub collected_all : (l : Listing) (bs : List Block) → IsFlow l [] bs → HasAccesses l (atoms_in l bs)
collected_all l bs flow v h =
    let r = listed_at l (places_of bs) h.at v ((flow.each h.at).1 h.reached) h.range h.is_local in
    (r.atom, (subst (λ (xs : List Atom). IsIn r.atom xs) (sym (blocks_places l bs)) r.member, r.range))
