-- The line that declares a space: what its form has, and that it keeps to the rules.
use Rattle.std.proofs.Common.{◌≡◌, ◌∙◌, ◌<◌, ◌⊎◌, inl, inr, ℕ, zero, suc, Bool, true, false, List, [], ◌∷◌, ◌++◌, length, ap, sym, refl, arith, subst}
use Rattle.std.specs.Prelude.{◌==◌, ◌&&◌, ◌||◌, codes, not, Option, Some, None, IfSome, slice_get, if◌then◌else◌}
use Rattle.std.specs.List.{AllByRecursion}
use Rattle.std.specs.Option.{is_some, option_to_list}
use Rattle.std.specs.Str.{bytes_eq}
use Rattle.std.proofs.lemmas.Bool.Decides.{nat_tests}
use Rattle.std.proofs.lemmas.Bool.{ltb-false, eqb-true}
use Rattle.std.proofs.lemmas.Option.{slice_get_within}
use Rattle.line_reader.proofs.Faults.{AllFalse, all_false}
use Rattle.listing_lines.specs.Text.{Line}
use Rattle.listing_lines.specs.Tokens.{decimal_of, is_name}
use Rattle.pcode_model.specs.declared.listing.Instruction.{Instruction}
use Rattle.pcode_model.specs.declared.listing.Space.{Space}
use Rattle.pcode_model.specs.declared.listing.SpaceKind.{SpaceKind}
use Rattle.pcode_model.specs.declared.listing.SpaceKind.TheVariants.{Constant, Ram, Register, Unique}
use Rattle.pcode_model.specs.Ranges.{is_kind}
use Rattle.pcode_model.specs.Spaces.{kind_in, number_of, same_kind}
use Rattle.pcode_model.specs.WellFormed.{AreSpaces, HasKnownOps, HaveWords, IsDeclared, IsNamedSpace, IsStackPointer, how_many}
use Rattle.pcodetext.specs.declared.partial_listing.PartialListing.{PartialListing}
use Rattle.pcodetext.specs.declared.line_kinds.Form.TheVariants as form
use Rattle.pcodetext.specs.declared.space_line.SpaceLine.{SpaceLine}
use Rattle.pcodetext.specs.LineKinds.{is_two}
use Rattle.pcodetext.specs.SpaceLine.{after_space, is_outside, kind_of, order_of, space_faults, space_form, space_made, space_of, word_by}
use Rattle.pcodetext.specs.Tables.{space_name}
use Rattle.pcodetext.proofs.Distinct.{distinct_snoc, other_text, others}
use Rattle.pcodetext.proofs.FormIs.{IsForm, IsOneBefore, Known, when}
use Rattle.pcodetext.proofs.Formed.{KeepSpaces, Keeps, no_fixed, no_functions, no_protos}
use Rattle.pcodetext.proofs.Passing.{all_snoc, if_none, le_false, left_false, length_snoc, never, no_length, right_false}
use Rattle.pcodetext.proofs.Spaces.{none_some, some_same}

-- ---- its form

-- no space is declared as a constant space
pub kind_is : (word : Line) → IfSome (kind_of word) (λ k. same_kind Constant k ≡ false)
kind_is word =
    by_word (bytes_eq word (codes "ram")) (bytes_eq word (codes "register")) (bytes_eq word (codes "unique"))
  where
    by_word : (a b c : Bool)
        → IfSome (if a then Some Ram else (if b then Some Register else (if c then Some Unique else None)))
        (λ k. same_kind Constant k ≡ false)
    by_word true b c = refl
    by_word false true c = refl
    by_word false false true = refl
    by_word false false false = tt

-- of a version before 2, a word has one byte
word_is : (two : Bool) (parts : List Line) → IfSome (word_by two parts) (IsOneBefore two 1)
word_is true [] = tt
word_is false [] = λ e. refl
word_is true (word ∷ []) = in_two (decimal_of word)
  where
    in_two : (o : Option ℕ) → IfSome o (IsOneBefore true 1)
    in_two None = tt
    in_two (Some w) = λ e. absurd (never e)
word_is false (word ∷ []) = tt
word_is two (word ∷ more ∷ parts) = tt

space_made_is :
    (n : Known) (name : Line) (kind : Option SpaceKind) (size : Option ℕ) (big : Option Bool) (word : Option ℕ)
    → IfSome kind (λ k. same_kind Constant k ≡ false)
    → IfSome word (IsOneBefore n.two 1)
    → IsForm n (space_made name kind size big word)
space_made_is n name None size big word h g = tt
space_made_is n name (Some k) None big word h g = tt
space_made_is n name (Some k) (Some s) None word h g = tt
space_made_is n name (Some k) (Some s) (Some b) None h g = tt
space_made_is n name (Some k) (Some s) (Some b) (Some w) h g = when n (is_name name) _ (λ e. (h, (e, g)))

pub space_form_is : (n : Known) (parts : List Line) → IsForm n (space_form n.two parts)
space_form_is n [] = tt
space_form_is n (a ∷ []) = tt
space_form_is n (a ∷ b ∷ []) = tt
space_form_is n (a ∷ b ∷ c ∷ []) = tt
space_form_is n (a ∷ b ∷ c ∷ d ∷ parts) =
    let size : Option ℕ = decimal_of c in
    space_made_is n a (kind_of b) size (order_of d) (word_by n.two parts) (kind_is b) (word_is n.two parts)

-- ---- one space more

spaces_more : (spaces : List Space) (new : Space) → AreSpaces spaces → IsDeclared new → AreSpaces (spaces ++ new ∷ [])
spaces_more [] new h p = absurd h
spaces_more (s ∷ declared) new h p = (h.0, all_snoc IsDeclared declared new h.1 p)

declared_is : (l : SpaceLine)
    → same_kind Constant l.kind ≡ false
    → (is_outside 1 8 l.size || is_outside 1 8 l.word) ≡ false
    → IsDeclared (space_of l)
declared_is l kind sizes = record {
  kind = kind;
  some = ltb-false _ _ (left_false _ _ (left_false _ _ sizes));
  few = ltb-false _ _ (right_false _ _ (left_false _ _ sizes));
  word_some = ltb-false _ _ (left_false _ _ (right_false _ _ sizes));
  word_few = ltb-false _ _ (right_false _ _ (right_false _ _ sizes));
}

-- an element of a list with one more is one of the list, or the new one
get_snoc : (spaces : List Space) (new : Space) (n : ℕ) (s : Space)
    → slice_get (spaces ++ new ∷ []) n ≡ Some s
    → (slice_get spaces n ≡ Some s) ⊎ ((n ≡ length spaces) × (new ≡ s))
get_snoc [] new zero s e = inr (refl, some_same _ _ e)
get_snoc [] new (suc n) s e = absurd (none_some _ e)
get_snoc (x ∷ spaces) new zero s e = inl e
get_snoc (x ∷ spaces) new (suc n) s e = further (get_snoc spaces new n s e)
  where
    further : (slice_get spaces n ≡ Some s) ⊎ ((n ≡ length spaces) × (new ≡ s))
        → (slice_get spaces n ≡ Some s) ⊎ ((suc n ≡ length (x ∷ spaces)) × (new ≡ s))
    further (inl h) = inl h
    further (inr h) = inr (ap suc h.0, h.1)

-- the number of the first ram space is that among the spaces before, where it is one of them
number_stays : (spaces : List Space) (new : Space) (n : ℕ)
    → n < length spaces
    → n ≡ number_of Ram (spaces ++ new ∷ [])
    → n ≡ number_of Ram spaces
number_stays [] new n within e = absurd (omega arith)
number_stays (x ∷ spaces) new n within e =
    by_kind (λ m h g. number_stays spaces new m h g) (same_kind Ram x.kind) n within e
  where
    by_kind :
        ((m : ℕ) → m < length spaces → m ≡ number_of Ram (spaces ++ new ∷ []) → m ≡ number_of Ram spaces)
        → (t : Bool) (m : ℕ)
        → m < length (x ∷ spaces)
        → m ≡ (if t then 0 else suc (number_of Ram (spaces ++ new ∷ [])))
        → m ≡ (if t then 0 else suc (number_of Ram spaces))
    by_kind next true m h g = g
    by_kind next false zero h g = absurd (omega (arith, g))
    by_kind next false (suc m) h g = ap suc (next m (omega arith) (omega (arith, g)))

-- where the new space is the first ram space, there was none
none_before : (spaces : List Space) (new : Space)
    → length spaces ≡ number_of Ram (spaces ++ new ∷ [])
    → how_many Ram spaces ≡ 0
none_before [] new e = refl
none_before (x ∷ spaces) new e = by_kind (λ g. none_before spaces new g) (same_kind Ram x.kind) e
  where
    by_kind :
        (length spaces ≡ number_of Ram (spaces ++ new ∷ []) → how_many Ram spaces ≡ 0)
        → (t : Bool)
        → suc (length spaces) ≡ (if t then 0 else suc (number_of Ram (spaces ++ new ∷ [])))
        → (if t then suc (how_many Ram spaces) else how_many Ram spaces) ≡ 0
    by_kind next true g = absurd (omega (arith, g))
    by_kind next false g = next (omega (arith, g))

module _ (spaces : List Space) (l : SpaceLine) where
  -- a space that isn't ram, and the first ram space, don't stand with words of several bytes
  abbrev is_bad_word : Bool → Bool
  is_bad_word one = not one && (not (same_kind Ram l.kind) || how_many Ram spaces == 0)

  -- only a later ram space has words of several bytes
  word_is_one : is_bad_word (l.word == 1) ≡ false
      → (same_kind Ram l.kind ≡ false) ⊎ (how_many Ram spaces ≡ 0)
      → l.word ≡ 1
  word_is_one h later = by_word (l.word == 1) refl h later
    where
      none : how_many Ram spaces ≡ 0 → (how_many Ram spaces == 0) ≡ true
      none e = grind (arith, nat_tests)

      by_word : (t : Bool)
          → (l.word == 1) ≡ t
          → is_bad_word t ≡ false
          → (same_kind Ram l.kind ≡ false) ⊎ (how_many Ram spaces ≡ 0)
          → l.word ≡ 1
      by_word true e g k = eqb-true _ _ e
      by_word false e g (inl k) =
          absurd (never (sym (ap not k) ∙ left_false (not (same_kind Ram l.kind)) (how_many Ram spaces == 0) g))
      by_word false e g (inr k) =
          absurd (never (sym (none k) ∙ right_false (not (same_kind Ram l.kind)) (how_many Ram spaces == 0) g))

  words_more : is_bad_word (l.word == 1) ≡ false → HaveWords spaces → HaveWords (spaces ++ space_of l ∷ [])
  words_more bad h n s e first = by_place (get_snoc spaces (space_of l) n s e) first
    where
      all : List Space
      all = spaces ++ space_of l ∷ []

      kind_same : (ss : List Space) → slice_get ss n ≡ Some s → is_kind Ram ss n ≡ same_kind Ram s.kind
      kind_same ss is = ap (λ (o : Option Space). same_kind Ram (kind_in o)) is

      one : space_of l ≡ s → (same_kind Ram l.kind ≡ false) ⊎ (how_many Ram spaces ≡ 0) → s.word ≡ 1
      one is later = ap (λ (x : Space). x.word) (sym is) ∙ word_is_one bad later

      by_place : (slice_get spaces n ≡ Some s) ⊎ ((n ≡ length spaces) × (space_of l ≡ s))
          → (is_kind Ram all n ≡ false) ⊎ (n ≡ number_of Ram all)
          → s.word ≡ 1
      by_place (inl is) (inl other) = h n s is (inl (kind_same spaces is ∙ sym (kind_same all e) ∙ other))
      by_place (inl is) (inr number) =
          h n s is (inr (number_stays spaces (space_of l) n (slice_get_within spaces n s is) number))
      by_place (inr is) (inl other) =
          one is.1 (inl (ap (λ (x : Space). same_kind Ram x.kind) is.1 ∙ sym (kind_same all e) ∙ other))
      by_place (inr is) (inr number) = one is.1 (inr (none_before spaces (space_of l) (sym is.0 ∙ number)))

  keep_space : (two : Bool)
      → KeepSpaces two spaces
      → same_kind Constant l.kind ≡ false
      → IsNamedSpace (space_of l)
      → (two ≡ false → l.word ≡ 1)
      → bytes_eq l.name (codes "stack") ≡ false
      → AllByRecursion (λ s. space_name s ≡ l.name → ⊥) spaces
      → length spaces < 9
      → (is_outside 1 8 l.size || is_outside 1 8 l.word) ≡ false
      → is_bad_word (l.word == 1) ≡ false
      → KeepSpaces two (spaces ++ space_of l ∷ [])
  keep_space two f kind named first stack other few sizes bad = record {
    formed = spaces_more spaces (space_of l) f.formed (declared_is l kind sizes);
    words = words_more bad f.words;
    named = all_snoc IsNamedSpace spaces (space_of l) f.named named;
    few = let one = length_snoc spaces (space_of l) in omega (arith, one, few);
    distinct = distinct_snoc space_name spaces (space_of l) f.distinct other;
    no_stack =
        let none = other_text l.name (codes "stack") stack in
        all_snoc (λ s. s.name ≡ codes "stack" → ⊥) spaces (space_of l) f.no_stack none;
    one = λ e. all_snoc (λ s. s.word ≡ 1) spaces (space_of l) (f.one e) (first e);
  }

-- ---- it keeps to the rules

no_code : (P : Instruction → Type 0) (done : List Instruction) (last : Option Instruction)
    → done ≡ []
    → is_some last ≡ false
    → AllByRecursion P (done ++ option_to_list last)
no_code P done None e h = subst (λ (is : List Instruction). AllByRecursion P (is ++ [])) (sym e) tt
no_code P done (Some i) e h = absurd (never h)

pub space_keeps : (s : PartialListing) (l : SpaceLine) → Keeps s (form.Space l)
space_keeps s l f is h =
    let p : AllFalse (space_faults s l) = all_false (space_faults s l) h in
    let none : length s.protos ≡ 0 = no_length _ (right_false _ _ p.0) in
    let no_func : is_some s.func ≡ false = f.no_func none in
    let e = f.early no_func in
    let two : Bool = is_two s.version in
    let spaces : List Space = (after_space s l).spaces in
    let other = others space_name l.name s.spaces (right_false _ _ p.1.0) in
    let few : length s.spaces < 9 = le_false _ _ p.1.1.0 in
    record {
      version = f.version;
      spaces =
          let stack = left_false _ _ p.1.0 in
          keep_space s.spaces l two f.spaces is.0 is.1.0 is.1.1 stack other few p.1.1.1.0 p.1.1.1.1.0;
      stack = if_none (IsStackPointer spaces) s.stack (right_false _ _ (left_false _ _ p.0));
      protos = no_protos spaces s.stack s.protos none;
      functions = no_functions two spaces (length s.protos) s.func s.callees no_func e.callees;
      fixed = no_fixed spaces s.fixed e.fixed;
      code = record {
        apart = f.code.apart;
        first = f.code.first;
        formed = f.code.formed;
        known = no_code (HasKnownOps spaces) s.done s.last e.done e.last;
        short = f.code.short;
        total = f.code.total;
        few = f.code.few;
        closed = f.code.closed;
      };
      no_func = f.no_func;
      early = λ z. record { callees = e.callees; fixed = e.fixed; done = e.done; last = e.last };
    }
