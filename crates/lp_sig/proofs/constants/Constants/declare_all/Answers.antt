use Rattle.lp_sig.specs.inner.Reading.{AreDeclaredAs}
use Rattle.lp_sig.proofs.Reading.{none_declared, declared_more, inside_later, can_again}
use Rattle.std.specs.Prelude.{◌⊎◌}
use Rattle.std.proofs.Common.{◌≡◌, ◌++◌, map, sym, subst, take, append-nil, take_all, []}
use Rattle.lp_term.proofs.Within.{kept_then}
use Rattle.lp_term.proofs.Trees.{extends_same}
use Rattle.lp_lemmas.proofs.Results.{passed_up}
use Rattle.lp_sig.specs.Said.{each}
use Rattle.lp_sig.specs.Constants.{KnowsConstants, AreTypedIf, AreTakenConstants}
use Rattle.lp_sig.proofs.Spoken.{each_more}
use Rattle.lp_sig.proofs.Constancy.{typed_kept}
use Rattle.lp_sig.proofs.TakenConstants.{taken_one_more}
use Rattle.lp_sig.proofs.Declaring.{name_refused}
use Rattle.lp_sig.specs.Pieces.{spelled}
use Rattle.lp_sig.specs.Worded.{HasWords}
use Rattle.lp_sig.proofs.KnownConstants.{grows_same, grows_then}
use Rattle.lp_sig.proofs.Worded.{mapped_more}
use Rattle.lp_sig.specs.ModuleFaults.{IsNewFault}
use Rattle.lp_sig.specs.declared.fault.SigFault.TheVariants as fault
use Rattle.lp_sig.proofs.Refusing.{new_or}
use Rattle.lp_sig.specs.Differing.{HasNameCause}
use Rattle.lp_sig.specs.inner.Taking.{AddsNames, AreOtherIds}
use Rattle.lp_sig.proofs.Taking.{adds_same, adds_more, cause_more, others_more}
use Rattle.lp_sig.proofs.constants.Constants.declare_all.Goals as goal

pub loop-name-init : goal.loop-name-init
loop-name-init c = record {
  kept = extends_same c.args.types.now.bank;
  grown = grows_same c.args.self.now;
  known = λ said defs rows w k t. subst (KnowsConstants c.args.types.now.bank c.args.self.now said defs) (sym (append-nil rows)) k;
  typed = λ from z rows w k t all some. subst (λ r. AreTypedIf from z r c.args.self.now) (sym (append-nil rows)) all;
  taken = λ from z rows w k t all some. tt;
  words = λ words h. subst (HasWords c.args.self.now) (sym (append-nil words)) h;
  adds = adds_same c.args.self.now c.args.source.now [] c.args.declared;
  trees = λ words d is can. none_declared c.args.types.now.bank c.args.self.now c.args.source.now words d can;
}

pub loop-name-preserved : goal.loop-name-preserved
loop-name-preserved c =
    let b = c.args.types.now.bank in
    let here = c.loop-name.types.bank in
    let i = c.loop-name.name-index in
    let inv = c.loop-name.invariant in
    let text = c.args.source.now in
    let names = c.args.names.now in
    record {
      grown = grows_then c.args.self.now c.loop-name.self c.declare.new.self inv.grown c.in_ok-declare.ensures.grown;
      kept = kept_then b here c.declare.new.types.bank inv.kept c.declare.ensures.kept;
      known = λ said defs rows w k t.
          subst (KnowsConstants c.declare.new.types.bank c.declare.new.self said defs) (each_more text w names i _ rows c.loop-name-test.true)
          (c.in_ok-declare.ensures.known said defs (rows ++ each text w (take i names)) w (inv.known said defs rows w k t) (λ d e. typed_kept b here said defs w d inv.kept (t d e)));
      typed = λ from z rows w k t all some.
          subst (λ r. AreTypedIf from z r c.declare.new.self) (each_more text w names i _ rows c.loop-name-test.true)
          (c.in_ok-declare.ensures.typed from z (rows ++ each text w (take i names)) w (inv.known z.said z.definitions rows w k t) (inv.typed from z rows w k t all some) some);
      taken = λ from z rows w k t all some.
          subst (AreTakenConstants from z rows) (each_more text w names i _ [] c.loop-name-test.true)
          (taken_one_more from z rows (each text w (take i names)) _ (inv.taken from z rows w k t all some)
          (c.in_ok-declare.ensures.taken from z (rows ++ each text w (take i names)) w (inv.known z.said z.definitions rows w k t)
          (λ d e. typed_kept b here z.said z.definitions w d inv.kept (t d e)) (inv.typed from z rows w k t all some) some));
      words = λ words h.
          subst (HasWords c.declare.new.self) (mapped_more (λ s. spelled text s) names i _ words c.loop-name-test.true)
          (c.in_ok-declare.ensures.words (words ++ map (λ s. spelled text s) (take i names)) (inv.words words h));
      adds = adds_more c.args.self.now c.loop-name.self c.declare.new.self text names i _ c.args.declared c.loop-name-test.true inv.adds c.in_ok-declare.ensures.adds;
      trees = λ words d is can.
          let before = inv.trees words d is can in
          declared_more here c.declare.new.types.bank c.loop-name.self c.declare.new.self text names i _ d c.loop-name-test.true c.declare.ensures.kept c.in_ok-declare.ensures.grown (inside_later b here c.args.self.now words d inv.kept can) before
          (c.in_ok-declare.ensures.tree (words ++ map (λ s. spelled text s) (take i names)) d is
          (can_again b here c.args.self.now c.loop-name.self text (take i names) words (words ++ map (λ s. spelled text s) (take i names)) d inv.kept can before (inv.words words can.met)));
    }

pub returns-in_err-declare-clause-kept : goal.returns-in_err-declare-clause-kept
returns-in_err-declare-clause-kept c = kept_then c.args.types.now.bank c.loop-name.types.bank c.declare.new.types.bank c.loop-name.invariant.kept c.declare.ensures.kept

pub returns-in_err-declare-clause-why : goal.returns-in_err-declare-clause-why
returns-in_err-declare-clause-why c =
    passed_up c.from_residual.result c.in_err-declare.field-0.0 _ c.from_residual.ensures.1
    (name_refused c.args.types.now.bank c.loop-name.types.bank c.args.self.now c.loop-name.self c.args.source.now c.args.names.now
    c.loop-name.name-index _ c.args.declared c.in_err-declare.field-0.0 c.loop-name-test.true c.loop-name.invariant.kept
    c.loop-name.invariant.known c.loop-name.invariant.taken c.in_err-declare.ensures.why)

pub returns-clause-kept : goal.returns-clause-kept
returns-clause-kept c = c.loop-name.invariant.kept

pub returns-clause-known : goal.returns-clause-known
returns-clause-known c = λ said defs rows w k t.
    subst (λ names. KnowsConstants c.loop-name.types.bank c.loop-name.self said defs (rows ++ each c.args.source.now w names))
    (take_all c.loop-name.name-index c.args.names.now c.loop-name-test.false) (c.loop-name.invariant.known said defs rows w k t)

pub returns-clause-typed : goal.returns-clause-typed
returns-clause-typed c = λ from z rows w k t all some.
    subst (λ names. AreTypedIf from z (rows ++ each c.args.source.now w names) c.loop-name.self)
    (take_all c.loop-name.name-index c.args.names.now c.loop-name-test.false) (c.loop-name.invariant.typed from z rows w k t all some)

pub returns-clause-taken : goal.returns-clause-taken
returns-clause-taken c = λ from z rows w k t all some.
    subst (λ names. AreTakenConstants from z rows (each c.args.source.now w names))
    (take_all c.loop-name.name-index c.args.names.now c.loop-name-test.false) (c.loop-name.invariant.taken from z rows w k t all some)

pub returns-clause-words : goal.returns-clause-words
returns-clause-words c = λ words h.
    subst (λ names. HasWords c.loop-name.self (words ++ map (λ s. spelled c.args.source.now s) names))
    (take_all c.loop-name.name-index c.args.names.now c.loop-name-test.false) (c.loop-name.invariant.words words h)

pub returns-clause-grown : goal.returns-clause-grown
returns-clause-grown c = c.loop-name.invariant.grown

pub returns-in_err-declare-clause-reason : goal.returns-in_err-declare-clause-reason
returns-in_err-declare-clause-reason c =
    passed_up c.from_residual.result c.in_err-declare.field-0.0 (λ e. (e ≡ fault.Memory) ⊎ IsNewFault c.args.names.now e) c.from_residual.ensures.1
    (new_or c.args.names.now c.loop-name.name-index _ c.in_err-declare.field-0.0 fault.Memory c.loop-name-test.true c.in_err-declare.ensures.reason)

pub returns-clause-trees : goal.returns-clause-trees
returns-clause-trees c = λ words d is can.
    subst (λ names. AreDeclaredAs c.loop-name.types.bank c.loop-name.self c.args.source.now names d)
    (take_all c.loop-name.name-index c.args.names.now c.loop-name-test.false) (c.loop-name.invariant.trees words d is can)

pub returns-clause-adds : goal.returns-clause-adds
returns-clause-adds c = subst (λ names. AddsNames c.args.self.now c.loop-name.self c.args.source.now names c.args.declared)
    (take_all c.loop-name.name-index c.args.names.now c.loop-name-test.false) c.loop-name.invariant.adds

pub returns-in_err-declare-clause-full : goal.returns-in_err-declare-clause-full
returns-in_err-declare-clause-full c = λ words h.
    let text = c.args.source.now in
    let names = c.args.names.now in
    let i = c.loop-name.name-index in
    passed_up c.from_residual.result c.in_err-declare.field-0.0 (HasNameCause text words names) c.from_residual.ensures.1
    (cause_more text words names i _ c.in_err-declare.field-0.0 c.loop-name-test.true (c.in_err-declare.ensures.full (words ++ map (λ s. spelled text s) (take i names)) (c.loop-name.invariant.words words h)))

pub returns-in_err-declare-clause-other : goal.returns-in_err-declare-clause-other
returns-in_err-declare-clause-other c = λ words inside h.
    let text = c.args.source.now in
    let names = c.args.names.now in
    let i = c.loop-name.name-index in
    let now = c.declare.new.types.bank in
    passed_up c.from_residual.result c.in_err-declare.field-0.0 (AreOtherIds text now c.args.self.now names c.args.declared) c.from_residual.ensures.1
    (others_more c.args.types.now.bank now c.args.self.now c.loop-name.self text names i _ c.args.declared c.in_err-declare.field-0.0 c.loop-name-test.true
    (kept_then c.args.types.now.bank c.loop-name.types.bank now c.loop-name.invariant.kept c.declare.ensures.kept) inside c.loop-name.invariant.adds
    (c.in_err-declare.ensures.other (words ++ map (λ s. spelled text s) (take i names)) (c.loop-name.invariant.words words h)))
