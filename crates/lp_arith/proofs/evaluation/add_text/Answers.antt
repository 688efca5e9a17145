use Rattle.std.proofs.Common.{ap, ◌∙◌, ◌++◌}
use Rattle.lp_calculus.specs.Term.{atom, text}
use Rattle.lp_arith.proofs.Strings.{string_cell, string_bytes}
use Rattle.lp_arith.proofs.evaluation.add_text.Goals as goal

pub returns-clause-added : goal.returns-clause-added
returns-clause-added c = λ b r.
    c.in_ok-extend_from_slice.ensures.items ∙
    ap (λ l. c.args.out.now.items ++ l) (c.bytes.ensures ∙ string_bytes c.expose.new.store c.in_ok-at.at.0 c.in-Text.bytes b c.in-Text.ensures.cell (c.in_ok-at.ensures.reads (atom (text b)) r))

pub returns-in_default-clause-added : goal.returns-in_default-clause-added
returns-in_default-clause-added c = λ b r.
    (let k = string_cell c.expose.new.store c.in_ok-at.at.0 c.cell.result b c.cell.ensures.cell c.cell.ensures.sound c.cell.ensures.stands c.in_ok-at.ensures.exposed (c.in_ok-at.ensures.reads (atom (text b)) r) in
    absurd (c.in_default.not-Text k.0 k.1))
