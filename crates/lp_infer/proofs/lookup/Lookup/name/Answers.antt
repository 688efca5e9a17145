use Rattle.std.proofs.Common.{◌∙◌, refl, sym, ap, Some, None}
use Rattle.std.specs.Str.{bytes_eq}
use Rattle.std.proofs.lemmas.Result.{IfOk-weaker}
use Rattle.lp_sig.specs.Places.{first_place}
use Rattle.lp_infer.specs.Typing.{raw_index}
use Rattle.lp_infer.specs.Texts.{is_blank, read_variable, read_free}
use Rattle.lp_infer.specs.declared.lookup.Step.TheVariants as step
use Rattle.lp_infer.proofs.Leaves.{leaf_as, leaf_read_as, leaf_pushed, name_blank, name_bound}
use Rattle.lp_infer.proofs.lookup.Lookup.name.Goals as goal

pub returns-then-eq : goal.returns-then-eq
returns-then-eq c = λ names H F.
    leaf_as c.args.signature.now c.args.source.now (λ count. read_variable count names c.args.spot None c.args.self.now.variables.places.items) _ c.args.self.now c.variable.new.self
    (λ count. name_blank c.args.signature.now c.args.source.now count names c.args.spot c.args.self.now.variables.places.items (ap is_blank (sym c.spelled_at-name.ensures) ∙ ap (λ u. bytes_eq c.spelled_at-name.result.now u) (sym c.as_slice.ensures) ∙ sym c.eq.ensures ∙ c.if-eq.true))
    (c.in_ok-variable.ensures names H c.args.signature.now)

pub returns-in-Some : goal.returns-in-Some
returns-in-Some c = λ names H F.
    leaf_pushed c.args.signature.now c.args.source.now _ c.args.self.now _ (step.Bound c.in-Some.out) (λ count. raw_index c.in-Some.out) c.in_ok-push.ensures.items
    (λ count.
    name_bound c.args.signature.now c.args.source.now count names c.args.spot c.args.self.now.variables.places.items (Some c.in-Some.out) (ap is_blank (sym c.spelled_at-name.ensures) ∙ ap (λ u. bytes_eq c.spelled_at-name.result.now u) (sym c.as_slice.ensures) ∙ sym c.eq.ensures ∙ c.if-eq.false)
    (sym c.in-Some.is ∙ c.out.ensures names H ∙ ap (λ w. first_place w names) c.spelled_at-name.ensures))
    (λ count τ. refl) (λ n. tt) refl refl refl refl

pub returns : goal.returns
returns c =
    IfOk-weaker c.free.result _ _ (λ ok h names H F.
    let before = c.args.self.now.variables.places.items in
    leaf_read_as c.args.signature.now c.args.source.now (λ count. read_free c.args.signature.now c.args.source.now count names c.args.spot before) _ c.args.self.now c.free.new.self ok
    (λ count.
    name_bound c.args.signature.now c.args.source.now count names c.args.spot before None (ap is_blank (sym c.spelled_at-name.ensures) ∙ ap (λ u. bytes_eq c.spelled_at-name.result.now u) (sym c.as_slice.ensures) ∙ sym c.eq.ensures ∙ c.if-eq.false)
    (sym c.in_default.is ∙ c.out.ensures names H ∙ ap (λ w. first_place w names) c.spelled_at-name.ensures))
    (h names H F)) c.free.ensures
