use Rattle.std.proofs.Common.{◌<◌, length, sym, ap, subst, ◌∙◌, arith}
use Rattle.std.specs.Prelude.{All}
use Rattle.std.proofs.lemmas.List.{nil_from_length}
use Rattle.lp_term.proofs.Trees.{extends-trans}
use Rattle.lp_bytes.specs.Reading.{left_of}
use Rattle.lp_cert.specs.Arities.{counts_of}
use Rattle.lp_cert.specs.inner.Parts.{IsPartInside, term_tops_of}
use Rattle.lp_lemmas.proofs.Elements.{All_popped}
use Rattle.lp_cert.proofs.Firsts.{first_term, no_term, same_tops, refused_at}
use Rattle.lp_cert.proofs.terms.read_term.Goals as goal

pub returns-in-Some-clause-read : goal.returns-in-Some-clause-read
returns-in-Some-clause-read c = λ b y.
    let x = extends-trans _ _ b c.in_ok-stack.ensures.kept y in
    let parts = c.in_ok-parts.parts.items in
    first_term (counts_of c.args.arities.now) _ _ (term_tops_of b parts) b _ _ c.in-Some.made (c.in_ok-parts.ensures.read b x) c.in-Some.ensures.items
    (c.in_ok-stack.ensures.made (term_tops_of b parts)
    (λ e z. ap (term_tops_of e) c.as_slice.ensures.value ∙ same_tops (counts_of c.args.arities.now) _ _ _ parts c.in_ok-parts.ensures.read b x e z) b y)

pub returns-clause-read : goal.returns-clause-read
returns-clause-read c = λ b y.
    let x = extends-trans _ _ b c.in_ok-stack.ensures.kept y in
    let parts = c.in_ok-parts.parts.items in
    refused_at c.bad.result c.at-at.result (left_of c.args.reader.now) _ c.bad.ensures c.at-at.ensures
    (no_term (counts_of c.args.arities.now) _ _ (term_tops_of b parts) b _ (c.in_ok-parts.ensures.read b x) (nil_from_length c.in_ok-stack.stack.items (omega (arith, c.in-None.ensures.cases.0, c.in_ok-stack.stack.ok)))
    (c.in_ok-stack.ensures.made (term_tops_of b parts)
    (λ e z. ap (term_tops_of e) c.as_slice.ensures.value ∙ same_tops (counts_of c.args.arities.now) _ _ _ parts c.in_ok-parts.ensures.read b x e z) b y))

pub returns-in-Some-clause-inside : goal.returns-in-Some-clause-inside
returns-in-Some-clause-inside c =
    (All_popped (λ t. t.0 < length c.put_parts.new.bank.terms) c.in_ok-stack.stack.items _ c.in-Some.made c.in-Some.ensures.items (c.in_ok-stack.ensures.inside (subst (All (IsPartInside c.read_parts.new.bank)) (sym c.as_slice.ensures.value) c.in_ok-parts.ensures.inside))).1
