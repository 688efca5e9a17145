use Rattle.std.proofs.Common.{◌∙◌, ◌++◌, [], sym, ap}
use Rattle.std.specs.Prelude.{if◌then◌else◌}
use Rattle.lp_term.specs.Nodes.{tree}
use Rattle.lp_show.specs.Lines.{value_line}
use Rattle.lp_show.specs.Named.{all}
use Rattle.lp_show.proofs.Listings.{five_pieces}
use Rattle.lp_show.proofs.lines.push_value.Goals as goal

pub returns : goal.returns
returns c = record {
  idle = record { tasks = c.in_ok-write_term.ensures.idle.tasks; binders = c.in_ok-write_term.ensures.idle.binders };
  text =
      five_pieces c.args.writer.now.out.items c.extend_from_slice.new.self.items c.extend_from_slice-2.new.self.items c.extend_from_slice-3.new.self.items c.write_term.new.writer.out.items c.extend_from_slice-4.new.self.items _ _ _ _ _
      c.in_ok-extend_from_slice.ensures.items c.in_ok-extend_from_slice-2.ensures.items c.in_ok-extend_from_slice-3.ensures.items c.in_ok-write_term.ensures.text c.in_ok-extend_from_slice-4.ensures.items ∙
      ap (λ b. c.args.writer.now.out.items ++ (if b then value_line (all c.args.context.now.names.now) c.args.context.now.seen.now.keys c.args.name.now (tree c.args.context.now.bank.now c.args.value.0) else []))
      (sym (sym c.is_shown.ensures ∙ c.if-not-is_shown.false));
}
