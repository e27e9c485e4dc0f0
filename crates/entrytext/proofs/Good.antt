-- What a form that is read has: bytes of the space that its word says.
use Rattle.std.proofs.Common.{◌≡◌, ◌∙◌, ℕ, ◌<◌, ◌≤◌, ◌^◌, Bool, true, false, List, [], ◌∷◌, length, refl, sym, subst}
use Rattle.std.specs.Prelude.{codes, Option, Some, None, IfSome, if◌then◌else◌}
use Rattle.std.specs.List.{AllByRecursion}
use Rattle.std.specs.Str.{bytes_eq}
use Rattle.listing_lines.specs.Text.{Line, parts_of}
use Rattle.listing_lines.specs.Tokens.{bytes_of, hexadecimal_of, is_name}
use Rattle.pcode_model.specs.declared.listing.Listing.{Listing}
use Rattle.pcode_model.specs.declared.listing.Space.{Space}
use Rattle.pcode_model.specs.declared.listing.SpaceKind.TheVariants.{Ram}
use Rattle.pcode_model.specs.Ranges.{is_kind}
use Rattle.pcode_model.specs.Spaces.{first_ram, register_space, size_of, unique_space}
use Rattle.pcode_model.specs.WellFormed.{IsWellFormed}
use Rattle.entrytext.specs.declared.form.BytesLine.{BytesLine}
use Rattle.entrytext.specs.declared.form.Form.{Form}
use Rattle.entrytext.specs.declared.form.Form.TheVariants as form
use Rattle.entrytext.specs.declared.form.Part.{Part}
use Rattle.entrytext.specs.declared.form.Part.TheVariants as part
use Rattle.entrytext.specs.Forms.{answer_form, answer_made, end_form, entry_form, form_by, form_of, hidden_made, line_made, line_of, named_by, named_line_of, part_form, part_made, ram_named, state_form, state_made, word_of}
use Rattle.entrytext.proofs.Bytes.{AreSomeSmall, IsSmall, bytes_small}
use Rattle.entrytext.proofs.Named.{IsReal, first_ram_is, ram_named_is, ram_real, real_size, register_real, unique_real}

-- some bytes of a space of which P holds, if it is known
pub record IsLine (P : ℕ → Type 0) (b : BytesLine) : Type 0 where
  pub space : IfSome b.space P
  pub some : 0 < length b.bytes
  pub small : AllByRecursion IsSmall b.bytes

abbrev IsRam : List Space → ℕ → Type 0
IsRam spaces n = is_kind Ram spaces n ≡ true

-- the spaces that each part of an answer has bytes of
abbrev pub IsOfPart : Listing → Part → ℕ → Type 0
IsOfPart l part.Registers n = n ≡ register_space l
IsOfPart l part.Memory n = is_kind Ram l.spaces n ≡ true
IsOfPart l part.Hidden n = n ≡ first_ram l

abbrev pub IsGood : Listing → Form → Type 0
IsGood l (form.State b) = IsLine (IsReal l) b
IsGood l (form.Hidden b) = IsLine (λ n. n ≡ first_ram l) b
IsGood l (form.Answered p b) = IsLine (IsOfPart l p) b
IsGood l (form.Answer word) = Unit {0}
IsGood l form.Entry = Unit {0}
IsGood l form.End = Unit {0}
IsGood l form.Nothing = Unit {0}

-- ---- lines of bytes

module _ (P : ℕ → Type 0) where
  line_made_is : (space offset : Option ℕ) (bytes : Option (List ℕ))
      → IfSome space P
      → IfSome bytes AreSomeSmall
      → IfSome (line_made space offset bytes) (IsLine P)
  line_made_is space None bytes known small = tt
  line_made_is space (Some o) None known small = tt
  line_made_is space (Some o) (Some bs) known small = record { space = known; some = small.0; small = small.1 }

  line_is : (n : ℕ) (parts : List Line) → P n → IfSome (line_of n parts) (IsLine P)
  line_is n [] known = tt
  line_is n (a ∷ []) known = tt
  line_is n (a ∷ b ∷ []) known = line_made_is (Some n) (hexadecimal_of a) (bytes_of b) known (bytes_small b)
  line_is n (a ∷ b ∷ c ∷ parts) known = tt

module _ (spaces : List Space) where
  named_is : (parts : List Line) (pairs : Line) → IfSome (named_by spaces parts pairs) (IsLine (IsRam spaces))
  named_is [] pairs = tt
  named_is (a ∷ []) pairs = tt
  named_is (a ∷ b ∷ []) pairs = by_name (is_name a)
    where
      by_name : (t : Bool)
          → IfSome (if t then line_made (ram_named a spaces) (hexadecimal_of b) (bytes_of pairs) else None)
          (IsLine (IsRam spaces))
      by_name true = line_made_is (IsRam spaces) (ram_named a spaces) (hexadecimal_of b) (bytes_of pairs)
          (ram_named_is a spaces) (bytes_small pairs)
      by_name false = tt
  named_is (a ∷ b ∷ c ∷ parts) pairs = tt

  named_line_is : (parts : List Line) → IfSome (named_line_of spaces parts) (IsLine (IsRam spaces))
  named_line_is [] = tt
  named_line_is (a ∷ []) = tt
  named_line_is (a ∷ b ∷ []) = named_is (parts_of 58 a) b
  named_line_is (a ∷ b ∷ c ∷ parts) = tt

module _ (l : Listing) where
  some_real : (o : Option ℕ) → IfSome o (IsRam l.spaces) → IfSome o (IsReal l)
  some_real None h = tt
  some_real (Some n) h = ram_real l n h

  line_real : (o : Option BytesLine) → IfSome o (IsLine (IsRam l.spaces)) → IfSome o (IsLine (IsReal l))
  line_real None h = tt
  line_real (Some b) h = record { space = some_real b.space h.space; some = h.some; small = h.small }

  -- ---- forms

  state_made_is : (o : Option BytesLine) → IfSome o (IsLine (IsReal l)) → IsGood l (state_made o)
  state_made_is None h = tt
  state_made_is (Some b) h = h

  hidden_made_is : (o : Option BytesLine) → IfSome o (IsLine (λ n. n ≡ first_ram l)) → IsGood l (hidden_made o)
  hidden_made_is None h = tt
  hidden_made_is (Some b) h = h

  part_made_is : (p : Part) (o : Option BytesLine) → IfSome o (IsLine (IsOfPart l p)) → IsGood l (part_made p o)
  part_made_is p None h = tt
  part_made_is p (Some b) h = h

  answer_made_is : (o : Option ℕ) → IsGood l (answer_made o)
  answer_made_is None = tt
  answer_made_is (Some w) = tt

  answer_is : (parts : List Line) → IsGood l (answer_form parts)
  answer_is [] = tt
  answer_is (a ∷ []) = answer_made_is (word_of a)
  answer_is (a ∷ b ∷ parts) = tt

  end_is : (parts : List Line) → IsGood l (end_form parts)
  end_is [] = tt
  end_is (a ∷ parts) = tt

  either : (t : Bool) (x y : Form) → IsGood l x → IsGood l y → IsGood l (if t then x else y)
  either true x y p q = p
  either false x y p q = q

  entry_is : (parts : List Line) → IsGood l (entry_form parts)
  entry_is [] = tt
  entry_is (a ∷ []) = either (bytes_eq a (codes "1")) form.Entry form.Nothing (tt {0}) (tt {0})
  entry_is (a ∷ b ∷ parts) = tt

  -- a line of an answer, by its word
  part_is : (word : Line) (parts : List Line) → IsGood l (part_form l word parts)
  part_is word parts =
      let areg : Form = part_made part.Registers (line_of (register_space l) parts) in
      let is_areg : IsGood l areg = part_made_is part.Registers _ (line_is (IsOfPart l part.Registers) _ parts refl) in
      let amem : Form = part_made part.Memory (named_line_of l.spaces parts) in
      let is_amem : IsGood l amem = part_made_is part.Memory _ (named_line_is l.spaces parts) in
      let ahid : Form = part_made part.Hidden (line_of (first_ram l) parts) in
      let is_ahid : IsGood l ahid = part_made_is part.Hidden _ (line_is (IsOfPart l part.Hidden) _ parts refl) in
      let third : Form = if bytes_eq word (codes "ahid") then ahid else form.Nothing in
      let is_third : IsGood l third = either (bytes_eq word (codes "ahid")) ahid form.Nothing is_ahid (tt {0}) in
      let second : Form = if bytes_eq word (codes "amem") then amem else third in
      let is_second : IsGood l second = either (bytes_eq word (codes "amem")) amem third is_amem is_third in
      either (bytes_eq word (codes "areg")) areg second is_areg is_second

  module _ (formed : IsWellFormed l) where
    -- a line of the state or one of an answer, by its word
    state_is : (word : Line) (parts : List Line) → IsGood l (state_form l word parts)
    state_is word parts =
        let reg : Form = state_made (line_of (register_space l) parts) in
        let is_reg : IsGood l reg = state_made_is _ (line_is (IsReal l) _ parts (register_real l formed)) in
        let uni : Form = state_made (line_of (unique_space l) parts) in
        let is_uni : IsGood l uni = state_made_is _ (line_is (IsReal l) _ parts (unique_real l formed)) in
        let mem : Form = state_made (named_line_of l.spaces parts) in
        let is_mem : IsGood l mem = state_made_is _ (line_real _ (named_line_is l.spaces parts)) in
        let hid : Form = hidden_made (line_of (first_ram l) parts) in
        let is_hid : IsGood l hid = hidden_made_is _ (line_is (λ n. n ≡ first_ram l) _ parts refl) in
        let part : Form = part_form l word parts in
        let fourth : Form = if bytes_eq word (codes "hid") then hid else part in
        let is_fourth : IsGood l fourth = either (bytes_eq word (codes "hid")) hid part is_hid (part_is word parts) in
        let third : Form = if bytes_eq word (codes "mem") then mem else fourth in
        let is_third : IsGood l third = either (bytes_eq word (codes "mem")) mem fourth is_mem is_fourth in
        let second : Form = if bytes_eq word (codes "uni") then uni else third in
        let is_second : IsGood l second = either (bytes_eq word (codes "uni")) uni third is_uni is_third in
        either (bytes_eq word (codes "reg")) reg second is_reg is_second

    by_word_is : (word : Line) (parts : List Line) → IsGood l (form_by l (word ∷ parts))
    by_word_is word parts =
        let end : Form = end_form parts in
        let state : Form = state_form l word parts in
        let answer : Form = answer_form parts in
        let third : Form = if bytes_eq word (codes "end") then end else state in
        let is_third : IsGood l third =
        either (bytes_eq word (codes "end")) end state (end_is parts) (state_is word parts) in
        let second : Form = if bytes_eq word (codes "ans") then answer else third in
        let is_second : IsGood l second =
        either (bytes_eq word (codes "ans")) answer third (answer_is parts) is_third in
        either (bytes_eq word (codes "entry")) (entry_form parts) second (entry_is parts) is_second

    -- each line that has a form has some bytes, each below 256, of a space that its word allows
    pub form_good : (line : Line) → IsGood l (form_of l line)
    form_good line = by_parts (parts_of 32 line)
      where
        by_parts : (parts : List Line) → IsGood l (form_by l parts)
        by_parts [] = tt
        by_parts (word ∷ parts) = by_word_is word parts

    -- ---- what the steps ask of a line

    some_wide : (o : Option ℕ) → IfSome o (IsReal l) → IfSome o (λ n. size_of l n ≤ 2 ^ 64)
    some_wide None h = tt
    some_wide (Some n) h = real_size l formed n h

    first_ram_real : (o : Option ℕ) → IfSome o (λ n. n ≡ first_ram l) → IfSome o (IsReal l)
    first_ram_real None h = tt
    first_ram_real (Some n) h = subst (IsReal l) (sym h) (ram_real l (first_ram l) (first_ram_is l formed))

    part_real : (p : Part) (o : Option ℕ) → IfSome o (IsOfPart l p) → IfSome o (IsReal l)
    part_real p None h = tt
    part_real part.Registers (Some n) h = subst (IsReal l) (sym h) (register_real l formed)
    part_real part.Memory (Some n) h = ram_real l n h
    part_real part.Hidden (Some n) h = first_ram_real (Some n) h

    module _ (line : Line) (f : Form) (is : f ≡ form_of l line) where
      good : (g : Form) → f ≡ g → IsGood l g
      good g e = subst (IsGood l) (sym is ∙ e) (form_good line)

      pub state_wide : (b : BytesLine) → f ≡ form.State b → IfSome b.space (λ n. size_of l n ≤ 2 ^ 64)
      state_wide b e = let line : IsLine (IsReal l) b = good _ e in some_wide b.space line.space

      pub state_some : (b : BytesLine) → f ≡ form.State b → 0 < length b.bytes
      state_some b e = let line : IsLine (IsReal l) b = good _ e in line.some

      pub hidden_wide : (b : BytesLine) → f ≡ form.Hidden b → IfSome b.space (λ n. size_of l n ≤ 2 ^ 64)
      hidden_wide b e =
          let line : IsLine (λ n. n ≡ first_ram l) b = good _ e in
          some_wide b.space (first_ram_real b.space line.space)

      pub part_wide : (p : Part) (b : BytesLine)
          → f ≡ form.Answered p b
          → IfSome b.space (λ n. size_of l n ≤ 2 ^ 64)
      part_wide p b e =
          let line : IsLine (IsOfPart l p) b = good _ e in some_wide b.space (part_real p b.space line.space)
