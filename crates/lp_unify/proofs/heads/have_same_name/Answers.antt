use Rattle.std.proofs.Common.{refl}
use Rattle.lp_store.specs.declared.cell.Cell.TheVariants.{Text}
use Rattle.lp_unify.proofs.TypeCells.{many_none}
use Rattle.lp_unify.proofs.heads.have_same_name.Goals as goal

pub returns-in-Text : goal.returns-in-Text
returns-in-Text c = record { types = λ e. many_none c.args.store.now c.args.one c.args.other (Text c.in-Text.bytes) c.in-Text.ensures.cell refl (c.is_text.ensures e) }
