-- The named function shows what its body shows, by the body's own numbers.
use Rattle.std.proofs.Common.{◌≡◌, ℕ, ◌+◌, ◌≤◌, Bool, true, false, cond, List, length, refl, sym, ap, ◌∙◌, Option, arith}
use Rattle.std.specs.Prelude.{nat_lt, slice_get}
use Rattle.std.proofs.Math.Path.{fun_ext}
use Rattle.std.proofs.lemmas.Bool.Decides.{nat_tests}
use Rattle.std.proofs.lemmas.Option.{slice_get_past}
use Rattle.machine.specs.Machine.{seen}
use Rattle.pcode_model.specs.World.{Entry}
use Rattle.pcode_model.specs.declared.listing.Listing.{Listing}
use Rattle.cmeaning.specs.declared.tree.Stmt.{Stmt}
use Rattle.cmeaning.specs.declared.tree.Param.{Param}
use Rattle.cmeaning.specs.Callees.{returns_by}
use Rattle.cmeaning.specs.Do.{widths_in}
use Rattle.cmeaning.specs.Flat.{flat_of}
use Rattle.cmeaning.specs.Step.{CState, first_word, seen_c}
use Rattle.naming.specs.declared.head.Head.{Head}
use Rattle.naming.specs.declared.order.Order.{Order}
use Rattle.naming.specs.Listed.{place_in}
use Rattle.naming.specs.First.{order_of, variable_number, names_of}
use Rattle.naming.specs.Named.{named_function}
use Rattle.naming.specs.Run.{body_machine, widths_of, returns_of, start_of, seen_body}
use Rattle.naming.specs.Covered.{IsCovered}
use Rattle.naming_laws.proofs.Apart.{names_apart}
use Rattle.naming_laws.proofs.Steps.{state_back}
use Rattle.naming_laws.proofs.Runs.{renamed_run}
use Rattle.naming_laws.proofs.Orders.{sound}
use Rattle.naming_laws.proofs.Named.{named_keeps}

-- parameters keep their numbers, and nothing else is assigned at the start
first_same : (l : Listing) (e : Entry) (ps : List Param) (o : Order)
    → o.params ≡ length ps
    → (v : ℕ)
    → first_word l e (slice_get ps (variable_number o v)) ≡ first_word l e (slice_get ps v)
first_same l e ps o is v =
    ap (λ (n : ℕ). first_word l e (slice_get ps (cond (nat_lt v n) v (n + place_in o.variables v)))) is
    ∙ by_test (nat_lt v (length ps)) refl
  where
    by_test : (b : Bool)
        → nat_lt v (length ps) ≡ b
        → first_word l e (slice_get ps (cond b v (length ps + place_in o.variables v)))
        ≡ first_word l e (slice_get ps v)
    by_test true below = refl
    by_test false above =
        let from : length ps ≤ v = grind (arith, nat_tests, above) in
        let past : length ps ≤ length ps + place_in o.variables v = omega arith in
        ap (first_word l e) (slice_get_past ps (length ps + place_in o.variables v) past
        ∙ sym (slice_get_past ps v from))

start_back : (l : Listing) (h : Head) (e : Entry) (o : Order)
    → o.params ≡ length h.params
    → state_back (names_of o) (start_of l h e) ≡ start_of l h e
start_back l h e o is =
    let s = start_of l h e in
    ap (λ (env : ℕ → Option ℕ). record {
      position = 0;
      local = record { env = env; left = s.local.left; world = s.local.world };
    })
    (fun_ext (first_same l e h.params o is))

-- equal at every step
pub named_run : (l : Listing) (h : Head) (body : List Stmt) (e : Entry) (n : ℕ)
    → IsCovered h body
    → seen_body l h body e n ≡ seen_c l (named_function h body) e n
unfolding flat_of
named_run l h body e n covered =
    let o = order_of (length h.params) body in
    let f = named_function h body in
    let is = (sound h body covered).params in
    ap (λ (s : CState). seen (body_machine l (widths_of h) (returns_of h) body) s n) (sym (start_back l h e o is))
    ∙ renamed_run l (names_of o) (names_apart o) (widths_of h) (widths_in f) (returns_of h) (returns_by f.callees) body
    (named_keeps h body covered) (start_of l h e) n
