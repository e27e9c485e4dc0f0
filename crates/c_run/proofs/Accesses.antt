-- What assignments, loads and stores mean.
use Rattle.std.proofs.Common.{◌≡◌, ℕ, ◌%◌, Bool, true, List, Option, Some, None, refl, sym, ap, ◌∙◌}
use Rattle.std.proofs.lemmas.Bool.{eqb-true}
use Rattle.bits_core.specs.Bytes.{word_bytes}
use Rattle.bits_core.specs.declared.ops.Divide.{Divide}
use Rattle.bits_core.specs.Value.{divide_value}
use Rattle.pcode_model.specs.declared.listing.Listing.{Listing}
use Rattle.pcode_model.specs.Memory.{Bytes, plain}
use Rattle.pcode_model.specs.Spaces.{is_big, put, size_of}
use Rattle.pcode_model.specs.Step.{bytes_in, word_in_bytes}
use Rattle.pcode_model.specs.World.{World, store}
use Rattle.cmeaning.specs.declared.shape.Shape.{Shape}
use Rattle.cmeaning.specs.declared.tree.Expr.{Expr}
use Rattle.cmeaning.specs.Do as D
use Rattle.cmeaning.specs.Do.{assigned, in_world}
use Rattle.cmeaning.specs.Shape.{shape_of, has_width}
use Rattle.cmeaning.specs.Value.{width_of}
use Rattle.cvalue.specs.declared.variables.Variables.{Variables}
use Rattle.cvalue.specs.Held.{env_of}
use Rattle.cvalue.proofs.Right.{agrees}
use Rattle.run_world.specs.declared.entry.Answer.{Answer}
use Rattle.run_world.specs.declared.byte_map.ByteMap.{ByteMap}
use Rattle.run_world.specs.declared.log.Log.{Log}
use Rattle.run_world.specs.Log.{world_of}
use Rattle.run_world.specs.Maps.{bytes_of}
use Rattle.c_run.specs.declared.local.Local.{Local}
use Rattle.c_run.specs.States.{Becomes, local_of}

width_by : (ws : ℕ → ℕ) (e : Expr) (w : ℕ) (o : Option Shape)
    → shape_of ws e ≡ o
    → has_width w o ≡ true
    → width_of ws e ≡ w
width_by ws e w None is h = cc
width_by ws e w (Some s) is h = sym (agrees ws e s is) ∙ eqb-true s.width w h

-- the width of an expression that is as wide as asked
pub width_for : (ws : ℕ → ℕ) (e : Expr) (w : ℕ) → has_width w (shape_of ws e) ≡ true → width_of ws e ≡ w
width_for ws e w h = width_by ws e w (shape_of ws e) refl h

pub assigned_becomes : (answers : List Answer) (old : Local) (vars : Variables) (v n : ℕ)
    → env_of vars.words.items ≡ put (env_of old.variables.words.items) v (Some n)
    → vars.f.now ≡ old.variables.f.now
    → Becomes answers old (record { variables = vars; left = old.left; memory = old.memory; log = old.log })
    (assigned v n (local_of answers old))
assigned_becomes answers old vars v n env function =
    let x = local_of answers old in
    let make : (ℕ → Option ℕ) → D.Local = λ e. record { env = e; left = x.left; world = x.world } in
    record { means = ap make env; function = function }

pub loaded_is : (l : Listing) (s n at a k count size : ℕ) (m : Bytes) (word : ℕ)
    → n ≡ s
    → at ≡ a % size
    → size ≡ size_of l n
    → count ≡ k
    → word ≡ word_in_bytes l n at count m
    → word ≡ word_in_bytes l s (a % size_of l s) k m
loaded_is l s n at a k count size m word s_is at_is size_is k_is is =
    is ∙ ap (λ z. word_in_bytes l n z count m) (at_is ∙ ap (λ z. a % z) size_is)
    ∙ ap (λ z. word_in_bytes l n (a % size_of l n) z m) k_is
    ∙ ap (λ z. word_in_bytes l z (a % size_of l z) k m) s_is

pub stored_is : (l : Listing) (s n at a k count size value : ℕ) (big : Bool) (bytes : List ℕ) (x : World Bytes)
    → n ≡ s
    → at ≡ a % size
    → size ≡ size_of l n
    → count ≡ k
    → big ≡ is_big l n
    → bytes ≡ word_bytes big count value
    → store (plain l) n at bytes x ≡ store (plain l) s (a % size_of l s) (bytes_in l s k value) x
stored_is l s n at a k count size value big bytes x s_is at_is size_is k_is big_is is =
    ap (λ z. store (plain l) n z bytes x) (at_is ∙ ap (λ z. a % z) size_is)
    ∙ ap (λ z. store (plain l) n (a % size_of l n) z x)
    (is ∙ ap (λ b. word_bytes b count value) big_is ∙ ap (λ c. word_bytes (is_big l n) c value) k_is)
    ∙ ap (λ z. store (plain l) z (a % size_of l z) (bytes_in l z k value) x) s_is

pub stored_becomes : (answers : List Answer) (old : Local) (memory : ByteMap) (log : Log) (w : World Bytes)
    → world_of (bytes_of memory) answers log ≡ w
    → Becomes answers old (record { variables = old.variables; left = old.left; memory = memory; log = log })
    (in_world w (local_of answers old))
stored_becomes answers old memory log w is =
    let make : World Bytes → D.Local = λ z. in_world z (local_of answers old) in
    record { means = ap make is; function = refl }

pub no_quotient : (op : Divide) (w a b : ℕ) → b ≡ 0 → divide_value op w a b ≡ None
no_quotient op w a b is = ap (divide_value op w a) is
