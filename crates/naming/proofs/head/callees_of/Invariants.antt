use Rattle.std.proofs.Common.{◌≡◌, ◌++◌, drop}
use Rattle.naming.specs.Named.{declared_all}
use Rattle.naming.proofs.head.callees_of.Given as goal

abbrev pub invariant-loop-address : goal.invariant-loop-address
invariant-loop-address l =
    l.found ++ declared_all l.callees (drop l.address-index l.addresses) ≡ declared_all l.callees l.addresses
