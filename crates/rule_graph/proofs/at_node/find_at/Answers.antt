use Rattle.rule_graph.proofs.Kept.{found_here, kept_here}
use Rattle.rule_graph.proofs.at_node.find_at.Goals as goal

pub returns-clause-found : goal.returns-clause-found
returns-clause-found c = found_here c.args.nodes.now c.requires.formed c.args.at c.requires.inside c.input.result
    c.input.ensures.nodes c.input.ensures.at c.find.result c.find.ensures

pub returns-clause-kept : goal.returns-clause-kept
returns-clause-kept c = kept_here c.args.nodes.now c.requires.formed c.args.at c.requires.inside c.input.result
    c.input.ensures.nodes c.input.ensures.at c.find.result c.find.ensures
