use Rattle.std.proofs.Common.{refl, ap, map}
use Rattle.lp_term.proofs.Trees.{extends_same}
use Rattle.lp_module.specs.Numbering.{count_in}
use Rattle.lp_model.specs.Readings.{scheme_of}
use Rattle.lp_module.specs.Program.{row_of}
use Rattle.lp_module.proofs.Numbered.{global_added}
use Rattle.lp_module.proofs.Tabled.{none_more, row_pushed}
use Rattle.lp_module.proofs.copies.Making.add_global_kind.Goals as goal

pub returns-clause-made : goal.returns-clause-made
returns-clause-made c = (
  (λ (within, lengths, counted, numbered, others_counted, others_numbered, typed).
      let a = global_added (count_in c.args.self.now.hidden_kinds) c.args.self.now.kinds.items c.push.new.self.items (record { name = c.in_ok-name.name; hidden = 0; arity = c.args.arity }) c.in_ok-push.ensures.items refl counted numbered in
      (within, lengths, a.0, a.1, others_counted, others_numbered, typed)),
  refl,
  extends_same c.args.self.now.bank,
  refl,
)

pub returns-clause-names : goal.returns-clause-names
returns-clause-names c = record {
  kinds_are = row_pushed c.args.self.now.kinds.items c.push.new.self.items (record { name = c.in_ok-name.name; hidden = 0; arity = c.args.arity }) (c.args.name.now, (0, c.args.arity)) c.in_ok-push.ensures.items (ap (λ n. (n, (0, c.args.arity))) c.in_ok-name.ensures.items);
  constants_are = none_more (map row_of c.args.self.now.constants.items);
  schemes_are = λ s. none_more (map (scheme_of c.args.self.now.bank) c.args.self.now.declared.items);
}
