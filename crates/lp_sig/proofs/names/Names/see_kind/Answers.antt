use Rattle.std.proofs.Common.{◌≡◌, ◌++◌, ◌∷◌, [], None, subst}
use Rattle.std.specs.Prelude.{◌⊎◌}
use Rattle.lp_sig.specs.Words.{meaning_of}
use Rattle.lp_sig.specs.inner.Telling.{IsNumberHere, KindTells}
use Rattle.lp_sig.proofs.ToldKinds.{here_at_last}
use Rattle.lp_sig.specs.Said.{a_kind}
use Rattle.lp_sig.specs.Knowing.{Knows}
use Rattle.lp_sig.specs.Modules.{kind_said}
use Rattle.lp_sig.specs.Sighted.{HasItsNumber}
use Rattle.lp_sig.proofs.names.Names.see_kind.Goals as goal

pub returns-clause-names : goal.returns-clause-names
returns-clause-names c = λ said k. subst (λ n. Knows c.announce_kind.new.self (said ++ (n, a_kind c.args.entry.now.arity) ∷ [])) c.as_slice.ensures.value (c.in_ok-announce_kind.ensures said k)

pub returns-clause-number : goal.returns-clause-number
returns-clause-number c = λ said k.
    let rows = said ++ kind_said c.args.entry.now ∷ [] in
    subst (λ n. HasItsNumber rows n c.kind_seen.result) c.as_slice-2.ensures.value
    (c.kind_seen.ensures.number rows (subst (λ n. Knows c.announce_kind.new.self (said ++ (n, a_kind c.args.entry.now.arity) ∷ [])) c.as_slice.ensures.value (c.in_ok-announce_kind.ensures said k)))

pub returns-clause-here : goal.returns-clause-here
returns-clause-here c = λ said k.
    let rows = said ++ kind_said c.args.entry.now ∷ [] in
    here_at_last said c.args.entry.now.name.items (a_kind c.args.entry.now.arity) c.kind_seen.result.0
    (subst (λ n. IsNumberHere rows n c.kind_seen.result.0 ⊎ (meaning_of n rows ≡ None)) c.as_slice-2.ensures.value
    (c.kind_seen.ensures.here rows (subst (λ n. Knows c.announce_kind.new.self (said ++ (n, a_kind c.args.entry.now.arity) ∷ [])) c.as_slice.ensures.value (c.in_ok-announce_kind.ensures said k))))

pub returns-clause-told : goal.returns-clause-told
returns-clause-told c = λ said k.
    let rows = said ++ kind_said c.args.entry.now ∷ [] in
    subst (λ n. KindTells rows n c.args.entry.now.arity c.kind_seen.result.1) c.as_slice-2.ensures.value
    (c.kind_seen.ensures.told rows (subst (λ n. Knows c.announce_kind.new.self (said ++ (n, a_kind c.args.entry.now.arity) ∷ [])) c.as_slice.ensures.value (c.in_ok-announce_kind.ensures said k)))
