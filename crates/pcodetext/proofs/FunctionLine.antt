-- The lines `func` and `callee`: what their form has, and that they keep to the rules.
use Rattle.std.proofs.Common.{◌≡◌, ◌∙◌, ◌<◌, ℕ, Bool, true, false, List, [], ◌∷◌, ◌++◌, length, ap, sym, refl, arith, subst, map}
use Rattle.std.specs.Prelude.{◌==◌, ◌&&◌, ◌||◌, codes, not, Option, Some, None, IfSome, if◌then◌else◌}
use Rattle.std.specs.List.{AllByRecursion, list_any}
use Rattle.std.specs.Option.{is_none, option_to_list}
use Rattle.std.specs.Str.{bytes_eq}
use Rattle.std.proofs.lemmas.Bool.{and_parts, not-false, eqb-true}
use Rattle.line_reader.proofs.Faults.{AllFalse, all_false}
use Rattle.listing_lines.specs.Text.{Line}
use Rattle.listing_lines.specs.Tokens.{is_name}
use Rattle.pcode_model.specs.declared.listing.Function.{Function}
use Rattle.pcode_model.specs.declared.listing.Proto.{Proto}
use Rattle.pcode_model.specs.declared.listing.Space.{Space}
use Rattle.pcode_model.specs.declared.listing.SpaceKind.TheVariants.{Ram}
use Rattle.pcode_model.specs.Ranges.{leaves}
use Rattle.pcode_model.specs.Spaces.{number_of}
use Rattle.pcode_model.specs.WellFormed.{IsFunction, IsNamedFunction}
use Rattle.pcode_model.specs.Functions.{function_address, has_address}
use Rattle.pcodetext.specs.declared.partial_listing.PartialListing.{PartialListing}
use Rattle.pcodetext.specs.declared.function_line.FunctionLine.{FunctionLine}
use Rattle.pcodetext.specs.declared.line_kinds.Form.TheVariants as form
use Rattle.pcodetext.specs.declared.written.Named.{Named}
use Rattle.pcodetext.specs.declared.written.Named.TheVariants as named
use Rattle.pcodetext.specs.Checks.{leaves_known, of_some}
use Rattle.pcodetext.specs.FunctionLine.{callee_faults, callee_form, callee_made, func_faults, func_form, func_made, function_made, function_of, is_first_ram, is_misplaced, is_taken, is_taken_by, proto_number, returns_by}
use Rattle.pcodetext.specs.LineKinds.{is_two}
use Rattle.pcodetext.specs.Tables.{function_name, has_name, place_in, proto_name}
use Rattle.pcodetext.specs.Written.{place_of}
use Rattle.pcodetext.proofs.Distinct.{distinct_after, other_number, other_text}
use Rattle.pcodetext.proofs.FormIs.{IsForm, IsFunctionLine, IsOneBefore, Known, NamesProto, known, named_small}
use Rattle.pcodetext.proofs.Formed.{KeepFunctions, Keeps}
use Rattle.pcodetext.proofs.Passing.{all_snoc, le_false, left_false, length_snoc, never, not_both, right_false, zero_false}

-- ---- their form

function_made_is :
    (Q : Bool → Type 0) (protos : List Proto) (name proto : Line) (place : Option (Named × ℕ)) (returns : Option Bool)
    → IfSome returns Q
    → IfSome (function_made protos name proto place returns) (λ l. IsFunctionLine (length protos) l × Q l.returns)
function_made_is Q protos name proto None returns q = tt
function_made_is Q protos name proto (Some place) None q = tt
function_made_is Q protos name proto (Some place) (Some returns) q = by_names _ refl
  where
    made : FunctionLine
    made = record {
      name = name;
      space = place.0;
      address = place.1;
      proto = place_in proto (map proto_name protos);
      returns = returns;
    }

    by_names : (t : Bool)
        → (is_name name && is_name proto) ≡ t
        → IfSome (if t then Some made else None) (λ l. IsFunctionLine (length protos) l × Q l.returns)
    by_names true e = ((named_small proto_name proto protos, (and_parts _ _ e).0), q)
    by_names false e = tt

func_made_is : (n : Known) (o : Option FunctionLine)
    → IfSome o (λ l. IsFunctionLine n.protos l × (l.returns ≡ true))
    → IsForm n (func_made o)
func_made_is n None h = tt
func_made_is n (Some l) h = h

callee_made_is : (n : Known) (o : Option FunctionLine)
    → IfSome o (λ l. IsFunctionLine n.protos l × IsOneBefore n.two true l.returns)
    → IsForm n (callee_made o)
callee_made_is n None h = tt
callee_made_is n (Some l) h = h

returns_is : (two : Bool) (parts : List Line) → IfSome (returns_by two parts) (IsOneBefore two true)
returns_is two [] = λ e. refl
returns_is two (word ∷ []) = by_word two (bytes_eq word (codes "noreturn"))
  where
    by_word : (t u : Bool) → IfSome (if t && u then Some false else None) (IsOneBefore t true)
    by_word true true = λ e. absurd (never e)
    by_word true false = tt
    by_word false u = tt
returns_is two (word ∷ more ∷ parts) = tt

module _ (two : Bool) (spaces : List Space) (protos : List Proto) where
  pub func_form_is : (parts : List Line) → IsForm (known two spaces protos) (func_form spaces protos parts)
  func_form_is [] = tt
  func_form_is (a ∷ []) = tt
  func_form_is (a ∷ b ∷ []) = tt
  func_form_is (a ∷ b ∷ c ∷ []) =
      let made = function_made_is (λ r. r ≡ true) protos a c (place_of spaces b) (Some true) refl in
      func_made_is (known two spaces protos) _ made
  func_form_is (a ∷ b ∷ c ∷ d ∷ parts) = tt

  pub callee_form_is : (parts : List Line) → IsForm (known two spaces protos) (callee_form two spaces protos parts)
  callee_form_is [] = tt
  callee_form_is (a ∷ []) = tt
  callee_form_is (a ∷ b ∷ []) = tt
  callee_form_is (a ∷ b ∷ c ∷ parts) =
      let returns = returns_is two parts in
      let made =
      function_made_is (IsOneBefore two true) protos a c (place_of spaces b) (returns_by two parts) returns in
      callee_made_is (known two spaces protos) _ made

-- ---- names and addresses

-- a callee has the name or the address exactly where one has the name or one has the address
pub taken_is : (spaces : List Space) (l : FunctionLine) (fs : List Function)
    → list_any (is_taken_by spaces l) fs
    ≡ (list_any (has_name l.name) fs || (is_first_ram spaces l.space && list_any (has_address l.address) fs))
taken_is spaces l fs = by_space (is_first_ram spaces l.space) fs
  where
    swapped : (a b c d : Bool) → ((a || b) || (c || d)) ≡ ((a || c) || (b || d))
    swapped true b c d = refl
    swapped false true true d = refl
    swapped false true false d = refl
    swapped false false c d = refl

    none_of : (a b : Bool) → ((a || false) || (b || false)) ≡ ((a || b) || false)
    none_of true b = refl
    none_of false b = refl

    by_space : (first : Bool) (xs : List Function)
        → list_any (λ f. bytes_eq f.name l.name || (first && f.address == l.address)) xs
        ≡ (list_any (has_name l.name) xs || (first && list_any (has_address l.address) xs))
    by_space true [] = refl
    by_space false [] = refl
    by_space true (f ∷ xs) =
        let named : Bool = bytes_eq f.name l.name in
        let placed : Bool = f.address == l.address in
        ap (λ (t : Bool). (named || placed) || t) (by_space true xs)
        ∙ swapped named placed (list_any (has_name l.name) xs) (list_any (has_address l.address) xs)
    by_space false (f ∷ xs) =
        ap (λ (t : Bool). (bytes_eq f.name l.name || false) || t) (by_space false xs)
        ∙ none_of (bytes_eq f.name l.name) (list_any (has_name l.name) xs)

module _ (spaces : List Space) (l : FunctionLine) where
  -- the name and the address of a function that is neither taken nor misplaced
  pub free_name : (fs : List Function)
      → list_any (is_taken_by spaces l) fs ≡ false
      → list_any (has_name l.name) fs ≡ false
  free_name fs free = left_false _ _ (sym (taken_is spaces l fs) ∙ free)

  pub free_address : (fs : List Function)
      → list_any (is_taken_by spaces l) fs ≡ false
      → is_first_ram spaces l.space ≡ true
      → list_any (has_address l.address) fs ≡ false
  free_address fs free first =
      ap (λ (t : Bool). t && list_any (has_address l.address) fs) (sym first)
      ∙ right_false _ _ (sym (taken_is spaces l fs) ∙ free)

  -- those that a line's function isn't
  free_names : (fs : List Function)
      → list_any (is_taken_by spaces l) fs ≡ false
      → AllByRecursion (λ f. function_name f ≡ l.name → ⊥) fs
  free_names [] free = tt
  free_names (f ∷ fs) free =
      (other_text f.name l.name (left_false _ _ (left_false _ _ free)), free_names fs (right_false _ _ free))

  free_addresses : is_first_ram spaces l.space ≡ true
      → (fs : List Function)
      → list_any (is_taken_by spaces l) fs ≡ false
      → AllByRecursion (λ f. function_address f ≡ l.address → ⊥) fs
  free_addresses first [] free = tt
  free_addresses first (f ∷ fs) free = (
    other_number f.address l.address (with_first _ first (right_false _ _ (left_false _ _ free))),
    free_addresses first fs (right_false _ _ free),
  )
    where
      with_first : (t : Bool) → t ≡ true → (t && f.address == l.address) ≡ false → (f.address == l.address) ≡ false
      with_first true e h = h
      with_first false e h = absurd (never (sym e))

free_of_all : (test : Function → Bool) (func : Option Function) (callees : List Function)
    → (of_some test func || list_any test callees) ≡ false
    → list_any test (option_to_list func ++ callees) ≡ false
free_of_all test None callees h = h
free_of_all test (Some f) callees h = h

-- ---- one function more

misplaced_by : (spaces : List Space) (space : Named) (address : ℕ)
    → (not (is_first_ram spaces space) || leaves_known spaces space address 1) ≡ false
    → leaves spaces (number_of Ram spaces) address 1 ≡ false
misplaced_by spaces (named.Space n) address h =
    let first : number_of Ram spaces ≡ n = eqb-true _ _ (not-false _ (left_false _ _ h)) in
    subst (λ (k : ℕ). leaves spaces k address 1 ≡ false) (sym first) (right_false _ _ h)
misplaced_by spaces named.Stack address h = absurd (never h)
misplaced_by spaces named.Unknown address h = absurd (never h)

function_is : (spaces : List Space) (protos : ℕ) (l : FunctionLine)
    → NamesProto protos l
    → is_none l.proto ≡ false
    → is_misplaced spaces l ≡ false
    → IsFunction spaces protos (function_of l)
function_is spaces protos l names some placed =
    record { proto = there l.proto names some; inside = misplaced_by spaces l.space l.address placed }
  where
    there : (o : Option ℕ) → IfSome o (λ n. n < protos) → is_none o ≡ false → proto_number o < protos
    there None h e = absurd (never e)
    there (Some n) h e = h

module _
    (two : Bool)
    (s : PartialListing)
    (l : FunctionLine)
    (is : IsFunctionLine (length s.protos) l)
    (known : is_none l.proto ≡ false)
    (placed : is_misplaced s.spaces l ≡ false) where
  keep_func : s.callees ≡ []
      → l.returns ≡ true
      → KeepFunctions two s.spaces (length s.protos) (Some (function_of l)) s.callees
  keep_func empty returns =
      let protos : ℕ = length s.protos in
      let P : List Function → Type 0 = λ callees. KeepFunctions two s.spaces protos (Some (function_of l)) callees in
      subst P (sym empty) (record {
        func = function_is s.spaces protos l is.0 known placed;
        func_named = is.1;
        returns = returns;
        callees = tt;
        named = tt;
        few = omega arith;
        names = (tt, tt);
        addresses = (tt, tt);
        one = λ e. tt;
      })

  keep_callee : KeepFunctions two s.spaces (length s.protos) s.func s.callees
      → (two ≡ false → l.returns ≡ true)
      → is_taken s l ≡ false
      → length s.callees < 1024
      → KeepFunctions two s.spaces (length s.protos) s.func (s.callees ++ function_of l ∷ [])
  keep_callee f returns taken few =
      let new : Function = function_of l in
      let all : List Function = option_to_list s.func ++ s.callees in
      let free : list_any (is_taken_by s.spaces l) all ≡ false =
      free_of_all (is_taken_by s.spaces l) s.func s.callees taken in
      let first : is_first_ram s.spaces l.space ≡ true =
      not-false _ (left_false _ (leaves_known s.spaces l.space l.address 1) placed) in
      let new_is : IsFunction s.spaces (length s.protos) new =
      function_is s.spaces (length s.protos) l is.0 known placed in
      let other_addresses = free_addresses s.spaces l first all free in
      record {
        func = f.func;
        func_named = f.func_named;
        returns = f.returns;
        callees = all_snoc (IsFunction s.spaces (length s.protos)) s.callees new f.callees new_is;
        named = all_snoc IsNamedFunction s.callees new f.named is.1;
        few = let one = length_snoc s.callees new in omega (arith, one, few);
        names = distinct_after function_name s.func s.callees new f.names (free_names s.spaces l all free);
        addresses = distinct_after function_address s.func s.callees new f.addresses other_addresses;
        one = λ e. all_snoc (λ g. g.returns ≡ true) s.callees new (f.one e) (returns e);
      }

-- ---- they keep to the rules

pub func_keeps : (s : PartialListing) (l : FunctionLine) → Keeps s (form.Func l)
func_keeps s l f is h =
    let p : AllFalse (func_faults s l) = all_false (func_faults s l) h in
    let some : 0 < length s.protos = zero_false _ (left_false _ _ p.0) in
    let not_none : length s.protos ≡ 0 → ⊥ = λ z. omega (arith, z, some) in
    let empty : s.callees ≡ [] = (f.early (right_false _ _ p.0)).callees in
    record {
      version = f.version;
      spaces = f.spaces;
      stack = f.stack;
      protos = f.protos;
      functions = keep_func (is_two s.version) s l is.0 (left_false _ _ p.1.0) p.1.1.1.0 empty is.1;
      fixed = f.fixed;
      code = f.code;
      no_func = λ z. absurd (not_none z);
      early = λ z. absurd (never z);
    }

pub callee_keeps : (s : PartialListing) (l : FunctionLine) → Keeps s (form.Callee l)
callee_keeps s l f is h =
    let p : AllFalse (callee_faults s l) = all_false (callee_faults s l) h in
    let opened : is_none s.func ≡ false = left_false _ _ (left_false _ _ p.0) in
    let placed : is_misplaced s.spaces l ≡ false = right_false _ _ p.1.1.1.0 in
    let few : length s.callees < 1024 = le_false _ _ (left_false _ _ p.1.1.1.0) in
    let more = keep_callee (is_two s.version) s l is.0 (left_false _ _ p.1.0) placed f.functions is.1 p.1.1.0 few in
    record {
      version = f.version;
      spaces = f.spaces;
      stack = f.stack;
      protos = f.protos;
      functions = more;
      fixed = f.fixed;
      code = f.code;
      no_func = f.no_func;
      early = λ z. absurd (not_both s.func opened z);
    }
