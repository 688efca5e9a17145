use Rattle.std.proofs.Common.{◌≡◌, ◌∙◌, ◌∷◌, ◌+◌, [], get_or, true, false, drop, sym, ap, subst, arith, refl}
use Rattle.std.proofs.lemmas.List.{drop_more}
use Rattle.lp_verify.specs.Named.{was_named}
use Rattle.lp_verify.specs.inner.Handed.{IsNamed, IsNamedSoFar}
use Rattle.lp_verify.specs.inner.Told.{is_fine, are_fine}
use Rattle.lp_verify.proofs.Faults.{none_left}
use Rattle.lp_verify.proofs.HandedOn.{named_has}
use Rattle.lp_verify.proofs.Names.{fine_stops, fine_goes, name_passes}
use Rattle.lp_verify.proofs.record.Work.name.Goals as goal

pub loop-number-preserved : goal.loop-number-preserved
loop-number-preserved c =
    let records = c.args.records.now in
    let n = c.loop-number.number-index in
    let k = c.args.self.now.home.number in
    let all = c.args.self.now.home.records.now in
    let x = get_or records n 0 in
    let left = drop (n + 1) records in
    let at : drop n records ≡ x ∷ left = drop_more records n 0 c.loop-number-test.true in
    let inv = c.loop-number.invariant in
    let old = c.loop-number.named in
    let new = c.name_one.new.named in
    let fine : is_fine k all (was_named old) c.args.types c.args.terms x ≡ true = sym c.in_ok-fine.ensures.fine ∙ c.if-not-fine.false in
    let p = c.args.place in
    let named : IsNamed (x ∷ []) p old new = c.in_ok-fine.ensures.named c.if-not-fine.false in (
      sym (fine_goes k all (was_named old) (was_named new) c.args.types c.args.terms x left fine (named_has (x ∷ []) p old new named)) ∙ ap (are_fine k all (was_named old) c.args.types c.args.terms) (sym at) ∙ inv.0,
      name_passes p c.args.named.now old new x records left named (subst (λ l. IsNamedSoFar records l p c.args.named.now old) at inv.1),
    )

pub returns-then-not-fine-clause-fine : goal.returns-then-not-fine-clause-fine
returns-then-not-fine-clause-fine c =
    let records = c.args.records.now in
    let n = c.loop-number.number-index in
    let k = c.args.self.now.home.number in
    let all = c.args.self.now.home.records.now in
    let x = get_or records n 0 in
    let left = drop (n + 1) records in
    let at : drop n records ≡ x ∷ left = drop_more records n 0 c.loop-number-test.true in
    let old = c.loop-number.named in
    let fine : is_fine k all (was_named old) c.args.types c.args.terms x ≡ false = sym c.in_ok-fine.ensures.fine ∙ c.if-not-fine.true in
    sym (fine_stops k all (was_named old) c.args.types c.args.terms x left fine) ∙ ap (are_fine k all (was_named old) c.args.types c.args.terms) (sym at) ∙ c.loop-number.invariant.0

pub returns : goal.returns
returns c =
    let records = c.args.records.now in
    let n = c.loop-number.number-index in
    let k = c.args.self.now.home.number in
    let all = c.args.self.now.home.records.now in
    let old = c.loop-number.named in
    let none : drop n records ≡ [] = none_left records records n refl (omega (arith, c.loop-number-test.false)) in
    let inv = c.loop-number.invariant in record {
      fine = ap (are_fine k all (was_named old) c.args.types c.args.terms) (sym none) ∙ inv.0;
      named = λ h. subst (λ l. IsNamedSoFar records l c.args.place c.args.named.now old) none inv.1;
    }
