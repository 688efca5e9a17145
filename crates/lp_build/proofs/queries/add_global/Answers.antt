use Rattle.std.proofs.Common.{◌∙◌, ap}
use Rattle.std.specs.Prelude.{if◌then◌else◌, Some, None}
use Rattle.std.specs.Option.{option_or}
use Rattle.std.specs.Str.{bytes_eq}
use Rattle.std.proofs.lemmas.Result.{on_ok_weaker}
use Rattle.lp_build.specs.inner.Linked.{number_of}
use Rattle.lp_build.proofs.Placing.{hidden_more, global_one_more}
use Rattle.lp_build.proofs.queries.add_global.Goals as goal

pub returns-then-hidden-ne0 : goal.returns-then-hidden-ne0
returns-then-hidden-ne0 c = λ names at has name. hidden_more c.args.name.now names name (number_of c.args.places.now name) c.if-hidden-ne0.true (has name)

pub returns : goal.returns
returns c =
    on_ok_weaker c.add_name.result
    (λ h names at has name. global_one_more c.args.name.now names name c.args.place (number_of c.add_name.new.self name) (number_of c.args.places.now name) c.if-hidden-ne0.false at (has name)
    (h name ∙ ap (λ l. option_or (number_of c.args.places.now name) (if bytes_eq name l then Some c.args.place else None)) c.as_slice.ensures.value)) c.add_name.ensures
