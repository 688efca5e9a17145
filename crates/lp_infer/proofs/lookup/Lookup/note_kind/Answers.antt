use Rattle.std.proofs.Common.{◌∙◌, sym, ap, None, option_map}
use Rattle.lp_infer.proofs.Noting.{kind_is, abbreviation_is}
use Rattle.lp_infer.proofs.lookup.Lookup.note_kind.Goals as goal

pub returns-in-Some-clause-kind : goal.returns-in-Some-clause-kind
returns-in-Some-clause-kind c = λ known. (
  c.in_ok-id.ensures.within,
  kind_is c.args.signature.now c.args.name.now c.args.self.now.types c.put_constructor.new.bank c.args.parts.now _
      c.in-Some.number c.in-Some.arity c.in_ok-id.id c.put_constructor.ensures.kept known (sym c.kind.ensures ∙ c.in-Some.is) c.if-parts-arity.false
      (c.in_ok-id.ensures.within, c.in_ok-id.ensures.tree),
)

pub returns-clause-kind : goal.returns-clause-kind
returns-clause-kind c = λ known. (
  (c.in_ok-id-2.ensures.tree known).0,
  abbreviation_is c.args.signature.now c.args.name.now c.args.self.now.types c.instance.new.to c.bank.result.now c.args.parts.now _ None c.in-Some-abbreviation.count c.in-Some-abbreviation.body.0 c.in_ok-id-2.id c.instance.ensures.kept known
      (sym c.kind.ensures ∙ c.in_default.is) (sym c.abbreviation.ensures ∙ ap (option_map (λ a. (a.0, a.1.0))) c.in-Some-abbreviation.is) c.if-parts-count.false c.bank.ensures (c.in_ok-id-2.ensures.tree known),
)
