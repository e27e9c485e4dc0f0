use Rattle.ctext.proofs.statements.+bodies.Goals as goal

pub print_stmt-returns-in_default : goal.print_stmt-returns-in_default
print_stmt-returns-in_default t c = c.print_simple.ensures c.args.indent.now
