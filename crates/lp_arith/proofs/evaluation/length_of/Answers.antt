use Rattle.std.proofs.Common.{sym, ap, ◌∙◌, length}
use Rattle.lp_calculus.specs.Term.{atom, text}
use Rattle.lp_arith.proofs.Strings.{string_cell, string_bytes}
use Rattle.lp_arith.proofs.evaluation.length_of.Goals as goal

pub returns-clause-count : goal.returns-clause-count
returns-clause-count c = λ b r.
    ap length (sym (c.bytes.ensures ∙ string_bytes c.expose.new.store c.in_ok-at.at.0 c.in-Text.bytes b c.in-Text.ensures.cell (c.in_ok-at.ensures.reads (atom (text b)) r)))

pub returns-in_default-clause-count : goal.returns-in_default-clause-count
returns-in_default-clause-count c = λ b r.
    (let k = string_cell c.expose.new.store c.in_ok-at.at.0 c.cell.result b c.cell.ensures.cell c.cell.ensures.sound c.cell.ensures.stands c.in_ok-at.ensures.exposed (c.in_ok-at.ensures.reads (atom (text b)) r) in
    absurd (c.in_default.not-Text k.0 k.1))
