use Rattle.std.proofs.Common.{◌∙◌, ap, sym, subst, map, reverse, length, arith}
use Rattle.std.proofs.lemmas.List.{length-map}
use Rattle.lp_link.specs.Uses.{uses_of}
use Rattle.lp_link.specs.inner.Entering.{ends_of, IsPlan}
use Rattle.lp_link.proofs.Uses.{uses_count}
use Rattle.lp_link.proofs.LinkedImage.{image_linked, image_named}
use Rattle.lp_link.proofs.linking.link.Goals as goal

pub make-requires-clause-members : goal.make-requires-clause-members
make-requires-clause-members c =
    let n = uses_count c.args.objects.now c.in_ok-members.field-0.uses.items c.in_ok-members.ensures.uses in
    let m = ap length c.in_ok-members.ensures.members in
    let k = length-map c.in_ok-members.field-0.members.items (λ m. m.object.now) in
    let l = ap length c.as_slice.ensures.value in
    omega (arith, n, m, k, l)

pub make-requires-clause-uses : goal.make-requires-clause-uses
make-requires-clause-uses c = c.in_ok-members.ensures.uses ∙ ap uses_of (sym (ap (map (λ m. m.object.now)) c.as_slice.ensures.value ∙ c.in_ok-members.ensures.members))

pub returns-clause-denotes : goal.returns-clause-denotes
returns-clause-denotes c =
    image_linked c.args.objects.now c.args.root (map ends_of (reverse c.in_ok-members.field-0.firsts.items)) c.in_ok-making.making
    c.in_ok-making.records.items c.in_ok-image.image c.in_ok-members.ensures.linked c.in_ok-members.ensures.firsts
    (λ x below plan. c.in_ok-making.ensures.made x below (subst (λ l. IsPlan l c.args.root (map ends_of (reverse c.in_ok-members.field-0.firsts.items)) x below)
    (sym (ap (map (λ m. m.object.now)) c.as_slice.ensures.value ∙ c.in_ok-members.ensures.members)) plan))
    (let f = c.in_ok-making.ensures.few in omega (arith, f)) c.in_ok-image.ensures.tables (ap (λ v. v.items) c.in_ok-image.ensures.records)

pub returns-clause-names : goal.returns-clause-names
returns-clause-names c =
    image_named c.args.objects.now c.args.root (map ends_of (reverse c.in_ok-members.field-0.firsts.items)) c.in_ok-making.making c.in_ok-image.image
    (λ x below plan. (c.in_ok-making.ensures.made x below (subst (λ l. IsPlan l c.args.root (map ends_of (reverse c.in_ok-members.field-0.firsts.items)) x below)
    (sym (ap (map (λ m. m.object.now)) c.as_slice.ensures.value ∙ c.in_ok-members.ensures.members)) plan)).tables)
    c.in_ok-members.ensures.linked c.in_ok-members.ensures.firsts c.in_ok-image.ensures.kinds c.in_ok-image.ensures.constants c.in_ok-image.ensures.types
