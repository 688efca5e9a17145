use Rattle.std.specs.Prelude.{All}
use Rattle.lp_sig.specs.inner.Reading.{AreSettled}
use Rattle.lp_sig.specs.AsWritten.{HasWrittenBody}
use Rattle.lp_sig.specs.Types.{Definition, HasBody}
use Rattle.lp_sig.specs.Said.{Said}
use Rattle.std.proofs.Common.{◌≡◌, ◌+◌, ◌≤◌, length, map, ap, List, subst, sym, ◌∙◌, get_or}
use Rattle.std.proofs.lemmas.Result.{IfOk-weaker}
use Rattle.lp_sig.specs.Rows.{Row, number_row}
use Rattle.lp_sig.specs.Constants.{Written, KnowsConstants, AreConstants, HaveNumbers, AreTyped}
use Rattle.lp_sig.specs.Abbreviations.{Seen}
use Rattle.lp_sig.specs.Entries.{parameters_row, AreAbbreviations}
use Rattle.lp_sig.specs.Knowing.{head_row, Knows}
use Rattle.lp_sig.specs.Modules.{numbered_names}
use Rattle.lp_base.specs.declared.limits.TheConstants.{END_OF_NUMBERS}
use Rattle.lp_sig.specs.Sights.{AreTheirEntries}
use Rattle.lp_sig.specs.Worded.{names_so_far}
use Rattle.lp_sig.specs.Holding.{KnowsSeen, IsTree, HoldsBodies}
use Rattle.lp_sig.proofs.Blame.{both_ok}
use Rattle.lp_sig.proofs.AbbreviationEntries.{all_listed, body_listed, all_settled}
use Rattle.lp_sig.proofs.making.Making.finish.Goals as goal

pub returns-clause-abbreviations : goal.returns-clause-abbreviations
returns-clause-abbreviations c =
    let entries = c.in_ok-abbreviations.abbreviations in
    let bank = c.args.self.bodies.types.bank in
    IfOk-weaker c.of.result (λ s. (s.bank ≡ c.into_bank.result) × (s.abbreviations ≡ entries)) (λ s. (z : Seen) → KnowsSeen c.args.self z → AreAbbreviations s.bank z s.abbreviations.items)
    (λ s f z k. subst (λ b. AreAbbreviations b z s.abbreviations.items) (sym (f.0 ∙ c.into_bank.ensures)) (subst (λ v. AreAbbreviations bank z v.items) (sym f.1)
    (all_listed c.args.self z entries.items k c.in_ok-abbreviations.ensures.rows c.in_ok-abbreviations.ensures.bodies)))
    (both_ok c.of.result (λ s. s.bank ≡ c.into_bank.result) (λ s. s.abbreviations ≡ entries) c.of.ensures.bank c.of.ensures.abbreviations)

pub returns-clause-constants : goal.returns-clause-constants
returns-clause-constants c =
    let entries = c.in_ok-constants.constants in
    let bank = c.args.self.bodies.types.bank in
    IfOk-weaker c.of.result (λ s. (s.bank ≡ c.into_bank.result) × (s.constants ≡ entries))
    (λ s. (z : Seen) (rows : List (Row Written)) → KnowsConstants bank c.args.self.constants z.said z.definitions rows → AreConstants s.bank
    z.said z.definitions rows s.constants.items × HaveNumbers rows)
    (λ s f z rows k. (
      subst (λ b. AreConstants b z.said z.definitions rows s.constants.items) (sym (f.0 ∙ c.into_bank.ensures))
          (subst (λ v. AreConstants bank z.said z.definitions rows v.items) (sym f.1)
          (c.in_ok-constants.ensures.are bank z.said z.definitions rows k)),
      c.in_ok-constants.ensures.numbers bank z.said z.definitions rows k,
    ))
    (both_ok c.of.result (λ s. s.bank ≡ c.into_bank.result) (λ s. s.constants ≡ entries) c.of.ensures.bank c.of.ensures.constants)

pub returns-clause-heads : goal.returns-clause-heads
returns-clause-heads c = IfOk-weaker c.of.result (λ s. s.abbreviations ≡ c.in_ok-abbreviations.abbreviations)
    (λ s. map parameters_row s.abbreviations.items ≡ map head_row c.args.self.names.heads.items)
    (λ s e. ap (λ v. map parameters_row v.items) e ∙ c.in_ok-abbreviations.ensures.rows) c.of.ensures.abbreviations

pub returns-clause-words : goal.returns-clause-words
returns-clause-words c = IfOk-weaker c.of.result (λ s. s.constants ≡ c.in_ok-constants.constants)
    (λ s. map number_row s.constants.items ≡ numbered_names 32 (names_so_far c.args.self.constants))
    (λ s e. ap (λ v. map number_row v.items) e ∙ c.in_ok-constants.ensures.rows) c.of.ensures.constants

pub returns-clause-bank : goal.returns-clause-bank
returns-clause-bank c = IfOk-weaker c.of.result (λ s. s.bank ≡ c.into_bank.result) (λ s. s.bank ≡ c.args.self.bodies.types.bank) (λ s e. e ∙ c.into_bank.ensures) c.of.ensures.bank

pub returns-clause-room : goal.returns-clause-room
returns-clause-room c = IfOk-weaker c.of.result (λ s. s.bank ≡ c.into_bank.result) (λ s. 8 + length c.args.self.names.kinds.items ≤ END_OF_NUMBERS)
    (λ s e. subst (λ ks. 8 + length ks ≤ END_OF_NUMBERS) c.as_slice.ensures.value c.in_ok-kinds.ensures.room) c.of.ensures.bank

pub returns-clause-typed : goal.returns-clause-typed
returns-clause-typed c = IfOk-weaker c.of.result (λ s. s.constants ≡ c.in_ok-constants.constants) (λ s. AreTheirEntries c.args.self.constants.constants.items s.constants.items)
    (λ s e. subst (λ v. AreTheirEntries c.args.self.constants.constants.items v.items) (sym e) c.in_ok-constants.ensures.typed) c.of.ensures.constants

pub returns-clause-full : goal.returns-clause-full
returns-clause-full c = IfOk-weaker c.of.result (λ s. s.constants ≡ c.in_ok-constants.constants) (λ s. AreTyped c.args.self.constants) (λ s e. c.in_ok-constants.ensures.full) c.of.ensures.constants

pub returns-clause-settled : goal.returns-clause-settled
returns-clause-settled c = IfOk-weaker c.of.result (λ s. s.constants ≡ c.in_ok-constants.constants) (λ s. (said : List (Row Said)) → Knows c.args.self.names said → AreSettled c.args.self.bodies.bodies.items said)
    (λ s e said k. all_settled c.args.self.names c.args.self.bodies.bodies.items said c.in_ok-abbreviations.abbreviations.items k c.in_ok-abbreviations.ensures.rows c.in_ok-abbreviations.ensures.bodies) c.of.ensures.constants

pub returns-clause-bodies : goal.returns-clause-bodies
returns-clause-bodies c =
    let entries = c.in_ok-abbreviations.abbreviations in
    let bank = c.args.self.bodies.types.bank in
    IfOk-weaker c.of.result (λ s. (s.bank ≡ c.into_bank.result) × (s.abbreviations ≡ entries)) (λ s. (said : List (Row Said)) (defs : List (Row Definition)) → Knows c.args.self.names said → HoldsBodies bank c.args.self.bodies.bodies.items said defs → All (HasWrittenBody s said defs) s.abbreviations.items)
    (λ s f said defs k holds. subst (λ v. All (HasWrittenBody s said defs) v.items) (sym f.1) (λ i d h.
    let tree = subst (λ b. IsTree b (HasBody said defs (get_or entries.items i d).name.items) (get_or entries.items i d).body) (sym (f.0 ∙ c.into_bank.ensures))
    (body_listed c.args.self.names bank c.args.self.bodies.bodies.items said defs entries.items k holds c.in_ok-abbreviations.ensures.rows c.in_ok-abbreviations.ensures.bodies i d h) in
    record { inside = tree.0; body = tree.1 }))
    (both_ok c.of.result (λ s. s.bank ≡ c.into_bank.result) (λ s. s.abbreviations ≡ entries) c.of.ensures.bank c.of.ensures.abbreviations)
