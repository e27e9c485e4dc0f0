-- What holds of every listing that is read.
use Rattle.std.proofs.Common.{◌≡◌, ◌∙◌, ◌<◌, ◌⊎◌, ℕ, Bool, true, false, List, [], ◌∷◌, ◌++◌, length, ap, sym, refl, arith, subst}
use Rattle.std.specs.Prelude.{◌==◌, Option, Some, None, IfSome, IfOk, Result, Ok, Err, if◌then◌else◌}
use Rattle.std.specs.Option.{is_none, is_some, option_to_list}
use Rattle.listing_lines.specs.Text.{Line}
use Rattle.line_reader.specs.Faults.{first_fault}
use Rattle.line_reader.specs.Reading.{concluded, progress}
use Rattle.line_reader.specs.Reading.Progress.{Going}
use Rattle.line_reader.specs.Reading.Read.{Bad, Good}
use Rattle.line_reader.specs.Reading.Step.{Goes}
use Rattle.line_reader.proofs.Faults.{fails_not, goes_same}
use Rattle.line_reader.proofs.Kept.{read_keeps}
pub use Rattle.line_reader.proofs.Kept.{bad_not, good_same}
use Rattle.pcode_model.specs.declared.listing.Function.{Function}
use Rattle.pcode_model.specs.declared.listing.Instruction.{Instruction}
use Rattle.pcode_model.specs.declared.listing.Listing.{Listing}
use Rattle.pcode_model.specs.WellFormed.{AreDistinct, IsFunction, IsNamedFunction, IsVersionOne, IsWellFormed, constant_space}
use Rattle.pcode_model.specs.Functions.{function_address}
use Rattle.pcodetext.specs.declared.partial_listing.PartialListing.{PartialListing}
use Rattle.pcodetext.specs.declared.fault.TextFault.{TextFault}
use Rattle.pcodetext.specs.declared.fault.TextFault.TheVariants.{Syntax}
use Rattle.pcodetext.specs.declared.fault.Why.{Why}
use Rattle.pcodetext.specs.declared.line_kinds.Form.{Form}
use Rattle.pcodetext.specs.LineKinds.{after, faults, form_of, is_two}
use Rattle.pcodetext.specs.Tables.{function_name}
use Rattle.pcodetext.specs.Meaning.{fault_at, finished, is_skipped, listing_of, reading, start, step, step_by, stepped, whole}
use Rattle.pcodetext.proofs.Formed.{IsFormed, has_protos, no_fixed, no_functions, no_protos}
use Rattle.pcodetext.proofs.Instructions.{few_ops}
use Rattle.pcodetext.proofs.LineKinds.{form_is, keeps}
use Rattle.pcodetext.proofs.Passing.{never}
use Rattle.pcodetext.proofs.Spaces.{keep_constant}

form_kept : (s t : PartialListing) (l : Form) (fault : Option Why)
    → first_fault (faults s l) ≡ fault
    → (first_fault (faults s l) ≡ None → IsFormed (after s l))
    → stepped s l fault ≡ Goes t
    → IsFormed t
form_kept s t l None is next e = subst IsFormed (goes_same _ _ e) (next is)
form_kept s t l (Some why) is next e = absurd (fails_not why t e)

step_kept : (s t : PartialListing) (line : Line) → IsFormed s → step s line ≡ Goes t → IsFormed t
step_kept s t line f = by_skip (is_skipped line)
  where
    by_skip : (b : Bool) → (if b then Goes s else step_by s (form_of s line)) ≡ Goes t → IsFormed t
    by_skip true e = subst IsFormed (goes_same _ _ e) f
    by_skip false e = form_kept s t (form_of s line) _ refl (keeps s (form_of s line) f (form_is s line)) e

pub start_formed : IsFormed start
start_formed = record {
  version = tt;
  spaces = keep_constant;
  stack = tt;
  protos = no_protos (constant_space ∷ []) None [] refl;
  functions = no_functions false (constant_space ∷ []) 0 None [] refl refl;
  fixed = no_fixed (constant_space ∷ []) [] refl;
  code = record {
    apart = tt;
    first = λ e. refl;
    formed = tt;
    known = tt;
    short = tt;
    total = refl;
    few = omega arith;
    closed = λ e. absurd (never (sym e));
  };
  no_func = λ z. refl;
  early = λ z. record { callees = refl; fixed = refl; done = refl; last = refl };
}

some_of : {A : Type 0} (P : A → Type 0) (o : Option A) (a : A) → o ≡ Some a → IfSome o P → P a
some_of P o a e h = subst (λ (x : Option _). IfSome x P) e h

some_code : (done : List Instruction) (last : Option Instruction)
    → is_some last ≡ true
    → 0 < length (done ++ option_to_list last)
some_code [] None e = absurd (never (sym e))
some_code [] (Some i) e = omega arith
some_code (d ∷ done) last e = omega arith

module _
    (s : PartialListing)
    (version : ℕ)
    (func : Function)
    (ended : s.ended ≡ true)
    (v : s.version ≡ Some version)
    (g : s.func ≡ Some func)
    (f : IsFormed s) where
  of_version_one : version ≡ 1 → IsVersionOne (listing_of s version func)
  of_version_one e = record { words = f.spaces.one one; callees = f.functions.one one }
    where
      one : is_two s.version ≡ false
      one = ap is_two v ∙ ap (λ (n : ℕ). n == 2) e

  listing_formed : IsWellFormed (listing_of s version func)
  listing_formed =
      let some : is_none s.func ≡ false = ap is_none g in
      record {
        version = some_of (λ n. (n ≡ 1) ⊎ (n ≡ 2)) s.version version v f.version;
        first_version = of_version_one;
        spaces = f.spaces.formed;
        complete = f.protos.complete (positive (length s.protos) (has_protos s f some));
        words = f.spaces.words;
        stack = f.stack;
        protos = f.protos.formed;
        func = some_of (IsFunction s.spaces (length s.protos)) s.func func g f.functions.func;
        returns = some_of (λ x. x.returns ≡ true) s.func func g f.functions.returns;
        callees = f.functions.callees;
        fixed = f.fixed.formed;
        rising = f.fixed.rising;
        some = some_code s.done s.last (f.code.closed ended);
        apart = f.code.apart;
        short = f.code.short;
        few = few_ops (s.done ++ option_to_list s.last) (omega (arith, f.code.total, f.code.few));
        ops = f.code.formed;
        known = f.code.known;
        named = record {
          spaces = f.spaces.named;
          protos = f.protos.named;
          func = some_of IsNamedFunction s.func func g f.functions.func_named;
          callees = f.functions.named;
        };
        distinct = record {
          spaces = f.spaces.distinct;
          no_stack = f.spaces.no_stack;
          protos = f.protos.distinct;
          functions =
              subst (λ (o : Option Function). AreDistinct function_name (option_to_list o ++ s.callees)) g
              f.functions.names;
          addresses =
              subst (λ (o : Option Function). AreDistinct function_address (option_to_list o ++ s.callees)) g
              f.functions.addresses;
        };
        limited = record {
          spaces = f.spaces.few;
          protos = f.protos.few;
          callees = f.functions.few;
          ops = omega (arith, f.code.total, f.code.few);
        };
      }
    where
      positive : (n : ℕ) → (n ≡ 0 → ⊥) → 0 < n
      positive n h = omega (arith, h)

end_formed : (n : ℕ) (s : PartialListing) (l : Listing) → IsFormed s → finished n s ≡ Good l → IsWellFormed l
end_formed n s l f = by_end s.ended s.version s.func refl refl refl
  where
    by_end : (ended : Bool) (version : Option ℕ) (func : Option Function)
        → s.ended ≡ ended
        → s.version ≡ version
        → s.func ≡ func
        → (if ended then whole s n version func else Bad (Syntax n)) ≡ Good l
        → IsWellFormed l
    by_end false version func a b c e = absurd (bad_not _ _ e)
    by_end true None func a b c e = absurd (bad_not _ _ e)
    by_end true (Some v) None a b c e = absurd (bad_not _ _ e)
    by_end true (Some v) (Some g) a b c e = subst IsWellFormed (good_same _ _ e) (listing_formed s v g a b c f)

-- what a text says keeps to every rule of listings
pub is_well_formed : (bytes : List ℕ) (l : Listing) → reading bytes ≡ Good l → IsWellFormed l
is_well_formed = read_keeps step IsFormed step_kept fault_at finished IsWellFormed end_formed start start_formed

-- and so does what the end of a text gives, where the text is read from the start
pub result_formed : (bytes : List ℕ) (begin s : PartialListing) (n : ℕ) (result : Result Listing TextFault)
    → begin ≡ start
    → progress step begin bytes ≡ Going n s
    → IfOk result (λ l. finished n s ≡ Good l)
    → IfOk result IsWellFormed
result_formed bytes begin s n (Ok l) begins going good =
    let P : PartialListing → Type 0 = λ b. progress step b bytes ≡ Going n s in
    is_well_formed bytes l (ap (concluded fault_at finished) (subst P begins going) ∙ good)
result_formed bytes begin s n (Err fault) begins going good = tt
