use Rattle.std.proofs.Common.{◌≡◌, ◌++◌, map, drop}
use Rattle.layout.specs.Callees.{callee_decl}
use Rattle.layout.proofs.declarations.callees.Given as goal

abbrev pub invariant-loop-address : goal.invariant-loop-address
invariant-loop-address l =
    let all = map (callee_decl l.listing) l.address-items in
    let rest = map (callee_decl l.listing) (drop l.address-index l.address-items) in
    l.declared ++ rest ≡ all
