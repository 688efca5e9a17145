use Rattle.std.proofs.Common.{map, arith}
use Rattle.std.specs.Prelude.{string_bytes}
use Rattle.std.proofs.lemmas.List.{length-map}
use Rattle.lp_module.specs.Searching.{ways_in}
use Rattle.lp_module.proofs.Naming.{all_within}
use Rattle.lp_module.proofs.ways.all_ways.Goals as goal

pub returns-clause-within : goal.returns-clause-within
returns-clause-within c =
    let names = map string_bytes c.args.names.now in
    let n = length-map c.args.names.now string_bytes in
    all_within names c.args.sources.now c.args.texts.now (ways_in c.in_ok-ways.ways.items) (omega (arith, c.if-sources-texts.false)) (omega (arith, n, c.if-names-texts.false)) (c.in_ok-ways.ensures names c.in_ok-files.ensures)
