-- What calls do, by the values of their arguments.
use Rattle.std.proofs.Common.{◌≡◌, ℕ, Bool, true, false, List, map, Option, Some, None, sym, ap, ◌∙◌}
use Rattle.machine.specs.Trace.{Undefined, NoReturn}
use Rattle.bits_core.specs.declared.word.Word.{Word}
use Rattle.pcode_model.specs.declared.listing.Listing.{Listing}
use Rattle.pcode_model.specs.Memory.{Bytes, or_else}
use Rattle.pcode_model.specs.World.{World}
use Rattle.cmeaning.specs.Do as D
use Rattle.cmeaning.specs.Do.{asks, called, ends, widths_in, with_words}
use Rattle.run_world.specs.declared.entry.Answer.{Answer}
use Rattle.run_world.specs.Meaning.{registers_of, value_of, with_offsets}
use Rattle.run_world.specs.declared.offset_map.OffsetMap.{OffsetMap}
use Rattle.run_world.specs.Maps.{at_offset}
use Rattle.c_run.specs.declared.local.Local.{Local}
use Rattle.c_run.specs.States.{Becomes, all_of, left_of, local_of, numbers_in}
use Rattle.c_run.proofs.Values.{by_values, values_by}
use Rattle.c_run.proofs.Effects.{becomes_as}

pub values_lack : (answers : List Answer) (old new : Local) (os : List (Option ℕ)) (o : Option (List Word))
    (to : List ℕ → D.Local)
    → o ≡ None
    → numbers_in o ≡ all_of os
    → Becomes answers old new (ends Undefined (local_of answers old))
    → Becomes answers old new (with_words os (local_of answers old) to)
values_lack answers old new os o to none is b =
    let x = local_of answers old in
    becomes_as answers old new (ends Undefined x) (with_words os x to) b
    (sym (ap (λ z. by_values (numbers_in z) x to) none) ∙ values_by os o x to is)

pub values_have : (answers : List Answer) (old new : Local) (os : List (Option ℕ)) (o : Option (List Word))
    (ws : List Word) (to : List ℕ → D.Local)
    → o ≡ Some ws
    → numbers_in o ≡ all_of os
    → Becomes answers old new (to (map value_of ws)) → Becomes answers old new (with_words os (local_of answers old) to)
values_have answers old new os o ws to some is b =
    let x = local_of answers old in
    becomes_as answers old new (to (map value_of ws)) (with_words os x to) b
    (sym (ap (λ z. by_values (numbers_in z) x to) some) ∙ values_by os o x to is)

pub calls_back : (l : Listing) (ws : ℕ → ℕ) (v : Option ℕ) (returns found : Bool) (x : D.Local)
    → found ≡ returns
    → found ≡ true
    → asks l ws v x ≡ called l ws v returns x
calls_back l ws v returns found x is so = ap (λ b. called l ws v b x) (sym so ∙ is)

pub calls_last : (l : Listing) (ws : ℕ → ℕ) (v : Option ℕ) (returns found : Bool) (x : D.Local)
    → found ≡ returns
    → found ≡ false
    → ends NoReturn x ≡ called l ws v returns x
calls_last l ws v returns found x is never = ap (λ b. called l ws v b x) (sym never ∙ is)

pub left_is : (m : OffsetMap) (a : Answer)
    → at_offset m ≡ with_offsets a.registers (λ o. None)
    → left_of m ≡ registers_of a
left_is m a e = let bytes : (ℕ → Option ℕ) → ℕ → ℕ = λ g o. or_else (g o) 0 in ap bytes e

pub left_moved : (env : ℕ → Option ℕ) (world : World Bytes) (f g : ℕ → ℕ) (x : D.Local)
    → x ≡ record { env = env; left = f; world = world }
    → f ≡ g
    → x ≡ record { env = env; left = g; world = world }
left_moved env world f g x is e =
    let make : (ℕ → ℕ) → D.Local = λ z. record { env = env; left = z; world = world } in
    is ∙ ap make e

pub becomes_then : (answers : List Answer) (a b c : Local) (y : D.Local) (g : D.Local → D.Local)
    → Becomes answers a b y
    → Becomes answers b c (g (local_of answers b))
    → Becomes answers a c (g y)
becomes_then answers a b c y g m n = record { means = n.means ∙ ap g m.means; function = n.function ∙ m.function }

pub asks_after : (answers : List Answer) (a b c : Local) (l : Listing) (v : Option ℕ) (y : D.Local)
    → Becomes answers a b y
    → Becomes answers b c (asks l (widths_in b.variables.f.now) v (local_of answers b))
    → Becomes answers a c (asks l (widths_in a.variables.f.now) v y)
asks_after answers a b c l v y m n = record {
  means =
      n.means
      ∙ ap (λ z. asks l (widths_in z) v (local_of answers b)) m.function
      ∙ ap (asks l (widths_in a.variables.f.now) v) m.means;
  function = n.function ∙ m.function;
}
