use Rattle.std.proofs.lemmas.Result.{IfOk-weaker}
use Rattle.lp_sig.specs.Said.{names_in}
use Rattle.lp_sig.specs.Sighted.{PutsBehind}
use Rattle.lp_sig.specs.Worded.{is_met_word}
use Rattle.lp_sig.specs.inner.Telling.{IsKnownType, IsTypeOfName}
use Rattle.lp_sig.proofs.ToldConstants.{constant_put, constant_stays, new_told, never_told, known_told}
use Rattle.std.proofs.Common.{◌∙◌, ap, sym, subst}
use Rattle.std.proofs.lemmas.Result.{on_ok_weaker}
use Rattle.lp_sig.specs.Sighted.{IsTreeOf}
use Rattle.lp_sig.specs.Worded.{is_met}
use Rattle.lp_sig.proofs.KnownConstants.{grows_same, grows_put, counted_later, seen_new, seen_never, seen_known, same_type}
use Rattle.lp_sig.proofs.Worded.{word_new, word_again}
use Rattle.lp_sig.proofs.constants.Constants.see.Goals as goal

pub returns-in-New-clause-words : goal.returns-in-New-clause-words
returns-in-New-clause-words c = on_ok_weaker c.see_new.result (λ h. word_new c.as_slice-name.result.now c.args.entry.now.name.items c.in_ok-known_as.field-0
    c.as_slice-name.ensures.value c.args.self.now c.in_ok-known_as.ensures.met c.see_new.new.self (ap is_met c.in-New.is) h) c.see_new.ensures.words

pub returns-in-Untyped-clause-words : goal.returns-in-Untyped-clause-words
returns-in-Untyped-clause-words c = word_again c.as_slice-name.result.now c.args.entry.now.name.items c.in_ok-known_as.field-0 c.as_slice-name.ensures.value
    c.args.self.now c.in_ok-known_as.ensures.met (ap is_met c.in-Untyped.is)

pub returns-in-Typed-clause-words : goal.returns-in-Typed-clause-words
returns-in-Typed-clause-words c = word_again c.as_slice-name.result.now c.args.entry.now.name.items c.in_ok-known_as.field-0 c.as_slice-name.ensures.value
    c.args.self.now c.in_ok-known_as.ensures.met (ap is_met c.in-Typed.is)

pub returns-in-New-clause-grown : goal.returns-in-New-clause-grown
returns-in-New-clause-grown c = on_ok_weaker c.see_new.result (λ h. grows_put c.args.self.now c.see_new.new.self c.as_slice-name.result.now _ h) c.see_new.ensures.put

pub returns-in-Untyped-clause-grown : goal.returns-in-Untyped-clause-grown
returns-in-Untyped-clause-grown c = grows_same c.args.self.now

pub returns-in-Typed-clause-grown : goal.returns-in-Typed-clause-grown
returns-in-Typed-clause-grown c = grows_same c.args.self.now

pub returns-in-New-clause-seen : goal.returns-in-New-clause-seen
returns-in-New-clause-seen c = seen_new c.see_new.result c.args.types.now.bank c.known_as.new.types.bank c.args.self.now c.see_new.new.self
    c.args.made.now c.args.entry.now c.as_slice-name.result.now c.in_ok-scheme.scheme
    c.in_ok-scheme.ensures c.as_slice-name.ensures.value c.known_as.ensures.kept c.see_new.ensures.put

pub returns-in-Untyped-clause-seen : goal.returns-in-Untyped-clause-seen
returns-in-Untyped-clause-seen c = λ words h all counted. (
  counted_later c.args.types.now.bank c.known_as.new.types.bank c.args.self.now c.known_as.ensures.kept all,
  seen_never c.known_as.new.types.bank c.args.self.now c.args.made.now c.args.entry.now words (c.in_ok-known_as.ensures.met words h)
      c.as_slice-name.ensures.value (ap is_met c.in-Untyped.is) (λ q. absurd (cc)),
)

pub returns-in-Typed-clause-seen : goal.returns-in-Typed-clause-seen
returns-in-Typed-clause-seen c = λ words h all counted. (
  counted_later c.args.types.now.bank c.known_as.new.types.bank c.args.self.now c.known_as.ensures.kept all,
  seen_known c.known_as.new.types.bank c.args.self.now c.args.made.now c.args.entry.now words (c.in_ok-known_as.ensures.met words h)
      c.as_slice-name.ensures.value (ap is_met c.in-Typed.is) c.in_ok-scheme.scheme c.in-Typed.known c.in_ok-scheme.ensures
      (subst (IsTreeOf c.known_as.new.types.bank c.args.self.now c.as_slice-name.result.now) c.in-Typed.is
      (c.in_ok-known_as.ensures.tree words h all)) (λ q. same_type c.in-Typed.known c.in_ok-scheme.scheme
      (c.are_equal.ensures.same (c.if_alike.ensures.alike q))),
)

pub returns-in-New-clause-here : goal.returns-in-New-clause-here
returns-in-New-clause-here c = on_ok_weaker c.see_new.result (λ put said rows t can. constant_put c.args.types.now.bank c.known_as.new.types.bank c.args.self.now said rows c.args.made.now c.args.entry.now t c.in_ok-scheme.scheme can c.in_ok-scheme.ensures c.known_as.ensures.kept
    (ap (λ w. is_met_word w (names_in rows)) (sym c.as_slice-name.ensures.value) ∙ c.in_ok-known_as.ensures.met (names_in rows) can.met ∙ ap is_met c.in-New.is)
    c.see_new.new.self c.args.entry.now.type_vars (subst (λ n. PutsBehind c.args.self.now c.see_new.new.self n (record { type_vars = c.args.entry.now.type_vars; scheme = c.in_ok-scheme.scheme })) c.as_slice-name.ensures.value put)) c.see_new.ensures.put

pub returns-in-Untyped-clause-here : goal.returns-in-Untyped-clause-here
returns-in-Untyped-clause-here c = λ said rows t can. constant_stays c.args.types.now.bank c.known_as.new.types.bank c.args.self.now said rows c.args.made.now c.args.entry.now t c.in_ok-scheme.scheme can c.in_ok-scheme.ensures c.known_as.ensures.kept

pub returns-in-Typed-clause-here : goal.returns-in-Typed-clause-here
returns-in-Typed-clause-here c = λ said rows t can. constant_stays c.args.types.now.bank c.known_as.new.types.bank c.args.self.now said rows c.args.made.now c.args.entry.now t c.in_ok-scheme.scheme can c.in_ok-scheme.ensures c.known_as.ensures.kept

pub returns-in-New-clause-told : goal.returns-in-New-clause-told
returns-in-New-clause-told c = IfOk-weaker c.see_new.result _ _ (λ s room said rows t can fits. new_told c.args.types.now.bank c.known_as.new.types.bank c.args.self.now said rows c.args.made.now c.args.entry.now t c.in_ok-scheme.scheme can c.in_ok-scheme.ensures c.known_as.ensures.kept
    (ap (λ w. is_met_word w (names_in rows)) (sym c.as_slice-name.ensures.value) ∙ c.in_ok-known_as.ensures.met (names_in rows) can.met ∙ ap is_met c.in-New.is) s room) c.see_new.ensures.room

pub returns-in-Untyped-clause-told : goal.returns-in-Untyped-clause-told
returns-in-Untyped-clause-told c = λ said rows t can fits.
    let known = subst (IsKnownType c.known_as.new.types.bank c.args.self.now c.as_slice-name.result.now) c.in-Untyped.is (c.in_ok-known_as.ensures.known_type (names_in rows) can.met) in
    absurd (never_told c.args.types.now.bank c.known_as.new.types.bank c.args.self.now said rows c.args.made.now c.args.entry.now t c.in_ok-scheme.scheme can c.in_ok-scheme.ensures c.known_as.ensures.kept known.0 known.1 known.2)

pub returns-in-Typed-clause-told : goal.returns-in-Typed-clause-told
returns-in-Typed-clause-told c = λ said rows t can fits.
    let known = subst (IsKnownType c.known_as.new.types.bank c.args.self.now c.as_slice-name.result.now) c.in-Typed.is (c.in_ok-known_as.ensures.known_type (names_in rows) can.met) in
    known_told c.args.types.now.bank c.known_as.new.types.bank c.args.self.now said rows c.args.made.now c.args.entry.now t c.in_ok-scheme.scheme can c.in_ok-scheme.ensures c.known_as.ensures.kept c.in-Typed.known (subst (λ n. IsTypeOfName c.known_as.new.types.bank c.args.self.now n c.in-Typed.known) c.as_slice-name.ensures.value known) fits
    (ap (λ w. is_met_word w (names_in rows)) (sym c.as_slice-name.ensures.value) ∙ c.in_ok-known_as.ensures.met (names_in rows) can.met ∙ ap is_met c.in-Typed.is)
    c.are_equal.result c.are_equal.ensures.same c.are_equal.ensures.distinct c.if_alike.result c.if_alike.ensures.first
