use Rattle.std.proofs.Common.{ap, ◌∙◌, inl, inr, Some, sym, refl}
use Rattle.std.specs.Prelude.{is_some, option_map}
use Rattle.lp_sig.specs.Places.{place_of}
use Rattle.lp_sig.specs.Knowing.{said_as}
use Rattle.lp_sig.proofs.Finding.{none_past}
use Rattle.lp_sig.proofs.Knowledge.{means_head, means_kind, means_nothing}
use Rattle.lp_sig.proofs.Meanings.{means_standard, says_head, says_kind, says_nothing}
use Rattle.lp_sig.proofs.Numbering.{standard_number, declared_number}
use Rattle.lp_sig.proofs.Typing.{exact_standard, exact_declared}
use Rattle.lp_sig.proofs.names.Names.meaning.Goals as goal
use Rattle.lp_sig.specs.Abbreviations.{place_meant}
use Rattle.lp_sig.proofs.Abbreviating.{place_head, place_standard}

pub returns-in-Some-clause-means : goal.returns-in-Some-clause-means
returns-in-Some-clause-means c = λ said k. means_standard c.args.name.now said c.in-Some.number c.in-Some.arity c.in-Some.ensures

pub returns-in-Some-clause-place : goal.returns-in-Some-clause-place
returns-in-Some-clause-place c = λ said k. place_standard c.args.name.now said (Some (c.in-Some.number, c.in-Some.arity)) refl c.in-Some.ensures

pub returns-in-Some-of-clause-known : goal.returns-in-Some-of-clause-known
returns-in-Some-of-clause-known c = λ said k. means_head c.args.self.now said c.args.name.now k c.in_default.ensures c.of.result c.in-Some-of.place c.in-Some-of.is (c.of.ensures ∙ k.head_places c.args.name.now)

pub returns-in-Some-of-clause-means : goal.returns-in-Some-of-clause-means
returns-in-Some-of-clause-means c = λ said k. says_head c.args.self.now said c.args.name.now k c.in_default.ensures c.of.result c.in-Some-of.place c.in-Some-of.is (c.of.ensures ∙ k.head_places c.args.name.now)

pub returns-in-Some-of-clause-place : goal.returns-in-Some-of-clause-place
returns-in-Some-of-clause-place c = λ said k. sym c.in-Some-of.is ∙ place_head c.args.self.now said c.args.name.now c.of.result k c.of.ensures

pub returns-in_err-place-clause-known : goal.returns-in_err-place-clause-known
returns-in_err-place-clause-known c = λ said k. ap is_some c.from_residual.ensures ∙ means_nothing c.args.self.now said c.args.name.now k
    c.in_default.ensures c.of.result c.of-2.result c.in_default-of.is (c.of.ensures ∙ k.head_places c.args.name.now) c.in_err-place.was
    (c.of-2.ensures ∙ k.kind_places c.args.name.now)

pub returns-in_err-place-clause-means : goal.returns-in_err-place-clause-means
returns-in_err-place-clause-means c = λ said k. ap (option_map (said_as c.args.self.now)) c.from_residual.ensures ∙ says_nothing c.args.self.now said
    c.args.name.now k c.in_default.ensures c.of.result c.of-2.result c.in_default-of.is (c.of.ensures ∙ k.head_places c.args.name.now)
    c.in_err-place.was (c.of-2.ensures ∙ k.kind_places c.args.name.now)

pub returns-in_err-place-clause-place : goal.returns-in_err-place-clause-place
returns-in_err-place-clause-place c = λ said k. ap place_meant c.from_residual.ensures ∙ sym c.in_default-of.is ∙ place_head c.args.self.now said c.args.name.now c.of.result k c.of.ensures

pub returns-in_err-kind-clause-known : goal.returns-in_err-kind-clause-known
returns-in_err-kind-clause-known c = λ said k. none_past (λ k. k.name.items) c.args.name.now c.args.self.now.kinds.items c.deref.result.now
    c.of-2.result (place_of c.args.self.now.kind_places c.args.name.now) c.in_ok-place.place c.of-2.ensures (k.kind_places c.args.name.now)
    c.in_ok-place.was c.deref.ensures.value c.in_err-kind.ensures.lookup.3

pub returns-in_err-kind-clause-means : goal.returns-in_err-kind-clause-means
returns-in_err-kind-clause-means c = λ said k. none_past (λ k. k.name.items) c.args.name.now c.args.self.now.kinds.items c.deref.result.now
    c.of-2.result (place_of c.args.self.now.kind_places c.args.name.now) c.in_ok-place.place c.of-2.ensures (k.kind_places c.args.name.now)
    c.in_ok-place.was c.deref.ensures.value c.in_err-kind.ensures.lookup.3

pub returns-in_err-kind-clause-place : goal.returns-in_err-kind-clause-place
returns-in_err-kind-clause-place c = λ said k. ap place_meant c.from_residual-in_err-kind.ensures ∙ sym c.in_default-of.is ∙ place_head c.args.self.now said c.args.name.now c.of.result k c.of.ensures

pub returns-clause-known : goal.returns-clause-known
returns-clause-known c = λ said k. means_kind c.args.self.now said c.args.name.now k c.in_default.ensures c.of.result c.of-2.result c.in_ok-place.place c.in_default-of.is (c.of.ensures ∙ k.head_places c.args.name.now) c.in_ok-place.was (c.of-2.ensures ∙ k.kind_places c.args.name.now)

pub returns-clause-means : goal.returns-clause-means
returns-clause-means c = λ said k. says_kind c.args.self.now said c.args.name.now k c.in_default.ensures c.of.result c.of-2.result c.in_ok-place.place
    c.deref.result.now c.in_ok-kind.kind.now c.in_default-of.is (c.of.ensures ∙ k.head_places c.args.name.now) c.in_ok-place.was
    (c.of-2.ensures ∙ k.kind_places c.args.name.now) c.deref.ensures.value c.in_ok-kind.ensures.lookup.1

pub returns-in-Some-clause-number : goal.returns-in-Some-clause-number
returns-in-Some-clause-number c = λ said k. inl (standard_number c.args.name.now said c.in-Some.number c.in-Some.arity c.in-Some.ensures)

pub returns-clause-number : goal.returns-clause-number
returns-clause-number c = λ said k. inr (declared_number c.args.self.now said c.args.name.now k c.of-2.result c.in_ok-place.place c.kind_number.result c.in_ok-place.was (c.of-2.ensures ∙ k.kind_places c.args.name.now) c.kind_number.ensures)

pub returns-clause-place : goal.returns-clause-place
returns-clause-place c = λ said k. sym c.in_default-of.is ∙ place_head c.args.self.now said c.args.name.now c.of.result k c.of.ensures

pub returns-in-Some-clause-exact : goal.returns-in-Some-clause-exact
returns-in-Some-clause-exact c = λ said k. exact_standard c.args.name.now said c.in-Some.number c.in-Some.arity c.in-Some.ensures

pub returns-clause-exact : goal.returns-clause-exact
returns-clause-exact c = λ said k. exact_declared c.args.name.now said c.kind_number.result c.in_default.ensures
    (declared_number c.args.self.now said c.args.name.now k c.of-2.result c.in_ok-place.place c.kind_number.result c.in_ok-place.was
    (c.of-2.ensures ∙ k.kind_places c.args.name.now) c.kind_number.ensures)
