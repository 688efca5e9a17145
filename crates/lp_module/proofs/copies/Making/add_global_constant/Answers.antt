use Rattle.std.proofs.Common.{refl, ap, map, ◌∙◌}
use Rattle.lp_term.proofs.Trees.{extends_same}
use Rattle.lp_module.specs.Numbering.{count_in}
use Rattle.lp_module.specs.Program.{row_of}
use Rattle.lp_module.proofs.Numbered.{global_added, both_more, typed_push}
use Rattle.lp_module.proofs.Tabled.{none_more, row_pushed, scheme_pushed}
use Rattle.lp_module.proofs.copies.Making.add_global_constant.Goals as goal

pub returns-clause-made : goal.returns-clause-made
returns-clause-made c = (
  (λ (within, lengths, counted, numbered, others_counted, others_numbered, typed).
      let a = global_added (count_in c.args.self.now.hidden_constants) c.args.self.now.constants.items c.push.new.self.items (record { name = c.in_ok-name.name; hidden = 0; arity = c.args.entry.now.type_vars }) c.in_ok-push.ensures.items refl others_counted others_numbered in (
        within,
        both_more c.args.self.now.declared.items c.push-2.new.self.items c.args.self.now.constants.items c.push.new.self.items _ _
            c.in_ok-push-2.ensures.items c.in_ok-push.ensures.items lengths,
        counted,
        numbered,
        a.0,
        a.1,
        typed_push c.args.self.now.bank
            c.args.self.now.declared.items c.push-2.new.self.items _ c.in_ok-push-2.ensures.items typed c.requires,
      )),
  refl,
  extends_same c.args.self.now.bank,
  refl,
)

pub returns-clause-names : goal.returns-clause-names
returns-clause-names c = record {
  kinds_are = none_more (map row_of c.args.self.now.kinds.items);
  constants_are = row_pushed c.args.self.now.constants.items c.push.new.self.items (record { name = c.in_ok-name.name; hidden = 0; arity = c.args.entry.now.type_vars }) (c.args.entry.now.name.items, (0, c.args.entry.now.type_vars)) c.in_ok-push.ensures.items (ap (λ n. (n, (0, c.args.entry.now.type_vars))) (c.in_ok-name.ensures.items ∙ c.as_slice.ensures.value));
  schemes_are = λ s. scheme_pushed c.args.self.now.bank c.args.self.now.declared.items c.push-2.new.self.items _ c.in_ok-push-2.ensures.items;
}
