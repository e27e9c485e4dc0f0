use Rattle.std.proofs.Common.{◌≡◌, ◌∙◌, ap, false, map, sym}
use Rattle.std.specs.List.{list_any}
use Rattle.pcode_model.specs.Functions.{function_address, has_address}
use Rattle.pcode_model.proofs.CalleeTable.{addresses_back, addresses_more}
use Rattle.pcode_model.proofs.callees.Callees.push.Goals as goal

pub invariant_of-self-in-Ok-push : goal.invariant_of-self-in-Ok-push
invariant_of-self-in-Ok-push c =
    let none : list_any (has_address c.args.callee.address) c.self.inside.listed ≡ false =
    ap (list_any (has_address c.args.callee.address)) c.self.view_is ∙ c.requires in
    addresses_more _ _ c.args.callee _ _ c.self.invariant none (c.in-Ok.ensures {u = tt}).keys
    (c.in-Ok-push.ensures {u = tt}).ok

pub invariant_of-self-in-Err-push : goal.invariant_of-self-in-Err-push
invariant_of-self-in-Err-push c =
    let none : list_any (has_address c.args.callee.address) c.self.inside.listed ≡ false =
    ap (list_any (has_address c.args.callee.address)) c.self.view_is ∙ c.requires in
    addresses_back _ c.args.callee _ _ _ _ c.self.invariant none (c.in-Ok.ensures {u = tt}).keys
    c.pop.ensures.keys c.pop.ensures.found.1
    ∙ sym (ap (map function_address) (c.in-Err-push.ensures {u = tt}).err)
