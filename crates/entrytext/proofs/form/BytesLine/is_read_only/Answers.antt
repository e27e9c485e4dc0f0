use Rattle.std.proofs.Common.{◌∙◌}
use Rattle.entrytext.proofs.Bytes.{looked_up}
use Rattle.entrytext.proofs.form.BytesLine.is_read_only.Goals as goal

pub returns : goal.returns
returns c = c.meets.ensures ∙ looked_up _ _ _ _ c.args.space c.args.self.now.offset _ _ c.requires.setting.fixed
    c.new-shape.ensures.size c.len.ensures
