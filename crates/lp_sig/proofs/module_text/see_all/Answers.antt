use Rattle.lp_sig.specs.AsWritten.{bodies_of}
use Rattle.lp_sig.specs.inner.Given.{GivesBodies}
use Rattle.std.proofs.Common.{[], ◌∷◌, ◌++◌, map, sym, subst, inr}
use Rattle.lp_sig.specs.Rows.{fixity_row}
use Rattle.lp_sig.specs.Abbreviations.{KnowsUses}
use Rattle.lp_sig.specs.SeenByModules.{seen_signature}
use Rattle.lp_sig.specs.Knowing.{Knows, KnowsOperators}
use Rattle.lp_sig.specs.Modules.{said_of, constants_of, of_each}
use Rattle.lp_sig.specs.Worded.{HasWords}
use Rattle.lp_sig.proofs.KnownConstants.{making_then, making_parts, counted_parts}
use Rattle.lp_sig.proofs.Told.{knows_parts}
use Rattle.lp_sig.proofs.Viewing.{seen_stays}
use Rattle.lp_sig.proofs.module_text.see_all.Goals as goal

pub returns-clause-names : goal.returns-clause-names
returns-clause-names c = λ said k.
    c.in_ok-sights.ensures.names (said ++ said_of c.args.own.now) (subst (λ n. Knows n (said ++ said_of c.args.own.now)) (sym c.see_fixities.ensures.names) (c.in_ok-see.ensures.names said k))

pub returns-clause-words : goal.returns-clause-words
returns-clause-words c = λ words h.
    c.in_ok-sights.ensures.words (words ++ constants_of c.args.own.now) (subst (λ n. HasWords n (words ++ constants_of c.args.own.now))
    (sym c.see_fixities.ensures.constants) (c.in_ok-see.ensures.words words h))

pub returns-clause-operators : goal.returns-clause-operators
returns-clause-operators c = λ said k.
    subst (λ o. KnowsOperators o (said ++ map fixity_row c.args.own.now.fixities.items)) (sym c.see_used.ensures.operators)
    (c.in_ok-see_fixities.ensures.operators said (subst (λ o. KnowsOperators o said) (sym c.see.ensures.operators) k))

pub returns-clause-grown : goal.returns-clause-grown
returns-clause-grown c =
    making_then c.args.making.now c.see.new.self c.see_used.new.making (record { bank = c.see.ensures.kept; constants = c.in_ok-see.ensures.grown })
    (making_then c.see.new.self c.see_fixities.new.self c.see_used.new.making (making_parts c.see.new.self c.see_fixities.new.self
    c.see_fixities.ensures.bodies c.see_fixities.ensures.constants) c.in_ok-sights.ensures.grown)

pub returns-clause-own : goal.returns-clause-own
returns-clause-own c = λ said words k h all ordered kinds new.
    let g = making_then c.see.new.self c.see_fixities.new.self c.see_used.new.making
    (making_parts c.see.new.self c.see_fixities.new.self c.see_fixities.ensures.bodies c.see_fixities.ensures.constants)
    c.in_ok-sights.ensures.grown in
    seen_stays c.see.new.self c.see_used.new.making (said ++ said_of c.args.own.now) (of_each said_of c.args.used.now) c.args.own.now ordered g.bank g.constants
    (c.in_ok-see.ensures.seen said words k h all ordered (inr (kinds, new))).1

pub returns-clause-seen : goal.returns-clause-seen
returns-clause-seen c = λ said words k h all ordered kinds new used.
    c.in_ok-sights.ensures.seen (said ++ said_of c.args.own.now) (words ++ constants_of c.args.own.now)
    (subst (λ n. Knows n (said ++ said_of c.args.own.now)) (sym c.see_fixities.ensures.names) (c.in_ok-see.ensures.names said k))
    (subst (λ n. HasWords n (words ++ constants_of c.args.own.now)) (sym c.see_fixities.ensures.constants) (c.in_ok-see.ensures.words words h))
    (counted_parts c.see.new.self c.see_fixities.new.self c.see_fixities.ensures.bodies c.see_fixities.ensures.constants
    (c.in_ok-see.ensures.seen said words k h all ordered (inr (kinds, new))).0) used

pub returns-clause-counted : goal.returns-clause-counted
returns-clause-counted c = λ said words k h all ordered kinds new used alike.
    c.in_ok-sights.ensures.counted (said ++ said_of c.args.own.now) (words ++ constants_of c.args.own.now)
    (subst (λ n. Knows n (said ++ said_of c.args.own.now)) (sym c.see_fixities.ensures.names) (c.in_ok-see.ensures.names said k))
    (subst (λ n. HasWords n (words ++ constants_of c.args.own.now)) (sym c.see_fixities.ensures.constants) (c.in_ok-see.ensures.words words h))
    (counted_parts c.see.new.self c.see_fixities.new.self c.see_fixities.ensures.bodies c.see_fixities.ensures.constants
    (c.in_ok-see.ensures.seen said words k h all ordered (inr (kinds, new))).0) used alike

pub returns-clause-given : goal.returns-clause-given
returns-clause-given c = λ said rows k g ordered whole kinds used used_whole alike.
    c.in_ok-sights.ensures.given used used_whole alike (said ++ said_of c.args.own.now) (rows ++ bodies_of c.args.own.now)
    (subst (λ n. Knows n (said ++ said_of c.args.own.now)) (sym c.see_fixities.ensures.names) (c.in_ok-see.ensures.names said k))
    (subst (λ b. GivesBodies b.types.bank b.bodies.items (said ++ said_of c.args.own.now) (rows ++ bodies_of c.args.own.now)) (sym c.see_fixities.ensures.bodies)
    (c.in_ok-see.ensures.given said rows k g ordered whole (inr kinds)))

pub returns-clause-uses : goal.returns-clause-uses
returns-clause-uses c = λ z k u.
    let own = seen_signature z c.args.own.now in
    c.in_ok-sights.ensures.uses own (subst (λ n. Knows n own.said) (sym c.see_fixities.ensures.names) (c.in_ok-see.ensures.names z.said k))
    (subst (λ v. KnowsUses (map (λ out. out.items) v.ways.items) own) (sym c.see_fixities.ensures.uses) (c.in_ok-see.ensures.uses z k u))

pub returns-clause-told : goal.returns-clause-told
returns-clause-told c = λ start. c.in_ok-sights.ensures.told (c.args.own.now ∷ [])
    (knows_parts c.see.new.self c.see_fixities.new.self (c.args.own.now ∷ []) c.see_fixities.ensures.names c.see_fixities.ensures.bodies c.see_fixities.ensures.constants (c.in_ok-see.ensures.stays [] start))

pub returns-clause-stays : goal.returns-clause-stays
returns-clause-stays c = λ start. c.in_ok-sights.ensures.stays (c.args.own.now ∷ [])
    (knows_parts c.see.new.self c.see_fixities.new.self (c.args.own.now ∷ []) c.see_fixities.ensures.names c.see_fixities.ensures.bodies c.see_fixities.ensures.constants (c.in_ok-see.ensures.stays [] start))
