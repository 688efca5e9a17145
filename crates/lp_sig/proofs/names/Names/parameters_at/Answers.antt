use Rattle.std.proofs.Common.{◌∙◌, ap, sym, get_or, map, []}
use Rattle.lp_sig.specs.Knowing.{head_row}
use Rattle.lp_sig.proofs.Heads.{row_at, row_past}
use Rattle.lp_sig.proofs.names.Names.parameters_at.Goals as goal

pub returns-in-Some : goal.returns-in-Some
returns-in-Some c =
    sym (row_at c.deref.result.now c.args.place c.in-Some.head.now c.in-Some.ensures.lookup.3.0 c.in-Some.ensures.lookup.1) ∙ ap (λ hs. (get_or (map head_row hs) c.args.place ([], 0)).1) c.deref.ensures.value

pub returns-in-None : goal.returns-in-None
returns-in-None c = row_past c.args.self.now.heads.items c.deref.result.now c.args.place c.deref.ensures.value c.in-None.ensures.lookup.3
