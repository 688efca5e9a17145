use Rattle.std.proofs.Common.{rules, sym, ◌∙◌, ap, option_map, length, refl}
use Rattle.std.proofs.lemmas.Option.{slice_get_read}
use Rattle.lp_base.proofs.Found.{found_here, found_later, named_here, not_yet}
use Rattle.lp_base.proofs.sure_folder.place_of.Goals as goal

pub returns-then-eq-clause-found : goal.returns-then-eq-clause-found
returns-then-eq-clause-found c =
    let here = found_here c.args.files.now c.args.name.now c.loop-i.i c.index-files-i.result c.as_str.result.now (search rules) c.index-files-i.is c.as_str.ensures.value (search rules) in
    let read = slice_get_read c.args.files.now (length c.args.files.now) c.loop-i.i c.index-files-i.result refl (search rules) c.index-files-i.is in
    ap (option_map (λ f. f.1.items)) read ∙ sym (c.loop-i.invariant.0 ∙ here)

pub returns-then-eq-clause-first : goal.returns-then-eq-clause-first
returns-then-eq-clause-first c = record {
  at = named_here c.args.files.now c.args.name.now c.loop-i.i c.index-files-i.result c.as_str.result.now (search rules) c.index-files-i.is c.as_str.ensures.value (search rules);
  before = c.loop-i.invariant.1;
}

pub loop-i-preserved : goal.loop-i-preserved
loop-i-preserved c = (
  c.loop-i.invariant.0 ∙ found_later c.args.files.now c.args.name.now c.loop-i.i c.index-files-i.result c.as_str.result.now (search rules) c.index-files-i.is c.as_str.ensures.value (search rules),
  not_yet c.args.files.now c.args.name.now c.loop-i.i c.index-files-i.result c.as_str.result.now (search rules) c.index-files-i.is c.as_str.ensures.value (search rules) c.loop-i.invariant.1,
)
