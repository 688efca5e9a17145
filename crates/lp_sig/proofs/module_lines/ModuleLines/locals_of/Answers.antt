use Rattle.lp_sig.specs.inner.Reading.{AreDeclaredAs}
use Rattle.lp_sig.proofs.Reading.{none_declared, declared_more, inside_later, can_again}
use Rattle.std.proofs.Common.{◌≡◌, ◌++◌, ◌∙◌, map, refl, sym, subst, take, take_all, append-nil}
use Rattle.lp_sig.specs.Pieces.{spelled}
use Rattle.lp_sig.specs.Worded.{HasWords}
use Rattle.lp_sig.proofs.KnownConstants.{making_same, making_then}
use Rattle.lp_sig.proofs.Worded.{mapped_more}
use Rattle.std.specs.Prelude.{◌⊎◌, All}
use Rattle.std.proofs.lemmas.List.Elements.{All-nil, All-more}
use Rattle.lp_lemmas.proofs.Results.{passed_up}
use Rattle.lp_sig.specs.Limits.{IsShort}
use Rattle.lp_sig.specs.ModuleFaults.{exports_constant, IsFirstOf, IsLocalFault, IsLocal, IsNewLocal}
use Rattle.lp_sig.specs.declared.fault.SigFault.TheVariants as fault
use Rattle.lp_sig.specs.declared.module_fault.ModuleSigFault.TheVariants as wrong
use Rattle.lp_sig.proofs.Refusing.{first_or}
use Rattle.std.proofs.Common.{[]}
use Rattle.lp_term.proofs.Trees.{extends-trans}
use Rattle.lp_sig.specs.Differing.{HasNameCause}
use Rattle.lp_sig.specs.inner.Taking.{AreOtherIds, AddsNames}
use Rattle.lp_sig.specs.declared.fault.SigFault.{SigFault}
use Rattle.lp_sig.proofs.Taking.{adds_same, adds_more, cause_more, others_more}
use Rattle.lp_sig.proofs.module_lines.ModuleLines.locals_of.Goals as goal

pub loop-name-init : goal.loop-name-init
loop-name-init c = record {
  words = λ words h. subst (HasWords c.args.making.now.constants) (sym (append-nil words)) h;
  grown = making_same
      c.args.making.now;
  taken = All-nil (IsLocal (exports_constant c.args.self.now.own.now) c.args.self.now.source.now
      (IsShort c.args.self.now.source.now));
  names = refl;
  operators = refl;
  uses = refl;
  kept = refl;
  adds = adds_same c.args.making.now.constants c.args.self.now.source.now [] c.args.declared;
  trees = λ words d is can. none_declared c.args.making.now.bodies.types.bank c.args.making.now.constants c.args.self.now.source.now words d can;
}

pub loop-name-preserved : goal.loop-name-preserved
loop-name-preserved c =
    let text = c.args.self.now.source.now in
    record {
      words = λ words h.
          subst (HasWords c.local.new.making.constants) (mapped_more (λ s. spelled text s) c.args.names.now c.loop-name.name-index _ words c.loop-name-test.true)
          (c.in_ok-local.ensures.words (words ++ map (λ s. spelled text s) (take c.loop-name.name-index c.args.names.now)) (c.loop-name.invariant.words words h));
      taken = All-more (IsLocal (exports_constant c.args.self.now.own.now) c.args.self.now.source.now (IsShort c.args.self.now.source.now))
          c.args.names.now c.loop-name.name-index _ c.loop-name-test.true c.loop-name.invariant.taken c.in_ok-local.ensures.taken;
      grown = making_then c.args.making.now c.loop-name.making c.local.new.making c.loop-name.invariant.grown c.in_ok-local.ensures.grown;
      names = c.local.ensures.names ∙ c.loop-name.invariant.names;
      operators = c.local.ensures.operators ∙ c.loop-name.invariant.operators;
      uses = c.local.ensures.uses ∙ c.loop-name.invariant.uses;
      kept = c.local.ensures.kept ∙ c.loop-name.invariant.kept;
      adds = adds_more c.args.making.now.constants c.loop-name.making.constants c.local.new.making.constants text c.args.names.now c.loop-name.name-index _ c.args.declared c.loop-name-test.true c.loop-name.invariant.adds c.in_ok-local.ensures.adds;
      trees = λ words d is can.
          let i = c.loop-name.name-index in
          let names = c.args.names.now in
          let inv = c.loop-name.invariant in
          let b = c.args.making.now.bodies.types.bank in
          let here = c.loop-name.making.bodies.types.bank in
          let before = inv.trees words d is can in
          declared_more here c.local.new.making.bodies.types.bank c.loop-name.making.constants c.local.new.making.constants text names i _ d c.loop-name-test.true c.in_ok-local.ensures.grown.bank c.in_ok-local.ensures.grown.constants
          (inside_later b here c.args.making.now.constants words d inv.grown.bank can) before
          (c.in_ok-local.ensures.tree (words ++ map (λ s. spelled text s) (take i names)) d is
          (can_again b here c.args.making.now.constants c.loop-name.making.constants text (take i names) words (words ++ map (λ s. spelled text s) (take i names)) d inv.grown.bank can before (inv.words words can.met)));
    }

pub returns-clause-words : goal.returns-clause-words
returns-clause-words c = λ words h.
    subst (λ ss. HasWords c.loop-name.making.constants (words ++ map (λ s. spelled c.args.self.now.source.now s) ss))
    (take_all c.loop-name.name-index c.args.names.now c.loop-name-test.false) (c.loop-name.invariant.words words h)

pub returns-clause-grown : goal.returns-clause-grown
returns-clause-grown c = c.loop-name.invariant.grown

pub returns-in_err-local-clause-refused : goal.returns-in_err-local-clause-refused
returns-in_err-local-clause-refused c =
    passed_up c.from_residual.result c.in_err-local.field-0.0 (λ e. (e ≡ wrong.Sig fault.Memory) ⊎ IsFirstOf
    (IsLocalFault (exports_constant c.args.self.now.own.now) c.args.self.now.source.now (IsNewLocal c.args.self.now.source.now))
    (IsLocal (exports_constant c.args.self.now.own.now) c.args.self.now.source.now (IsShort c.args.self.now.source.now)) c.args.names.now e)
    c.from_residual.ensures.1
    (first_or (IsLocalFault (exports_constant c.args.self.now.own.now) c.args.self.now.source.now (IsNewLocal c.args.self.now.source.now))
    (IsLocal (exports_constant c.args.self.now.own.now) c.args.self.now.source.now (IsShort c.args.self.now.source.now)) c.args.names.now
    c.loop-name.name-index _ c.in_err-local.field-0.0 (wrong.Sig fault.Memory) c.loop-name-test.true c.loop-name.invariant.taken
    c.in_err-local.ensures.refused)

pub returns-clause-taken : goal.returns-clause-taken
returns-clause-taken c = subst (All (IsLocal (exports_constant c.args.self.now.own.now) c.args.self.now.source.now
    (IsShort c.args.self.now.source.now))) (take_all c.loop-name.name-index c.args.names.now c.loop-name-test.false) c.loop-name.invariant.taken

pub returns-clause-kept : goal.returns-clause-kept
returns-clause-kept c = c.loop-name.invariant.kept

pub returns-in_err-local-clause-kept : goal.returns-in_err-local-clause-kept
returns-in_err-local-clause-kept c = c.local.ensures.kept ∙ c.loop-name.invariant.kept

pub returns-clause-trees : goal.returns-clause-trees
returns-clause-trees c = λ words d is can.
    subst (λ names. AreDeclaredAs c.loop-name.making.bodies.types.bank c.loop-name.making.constants c.args.self.now.source.now names d)
    (take_all c.loop-name.name-index c.args.names.now c.loop-name-test.false) (c.loop-name.invariant.trees words d is can)

pub returns-clause-adds : goal.returns-clause-adds
returns-clause-adds c = subst (λ names. AddsNames c.args.making.now.constants c.loop-name.making.constants c.args.self.now.source.now names c.args.declared)
    (take_all c.loop-name.name-index c.args.names.now c.loop-name-test.false) c.loop-name.invariant.adds

pub returns-clause-bank : goal.returns-clause-bank
returns-clause-bank c = c.loop-name.invariant.grown.bank

pub returns-in_err-local-clause-bank : goal.returns-in_err-local-clause-bank
returns-in_err-local-clause-bank c = extends-trans c.args.making.now.bodies.types.bank c.loop-name.making.bodies.types.bank c.local.new.making.bodies.types.bank c.loop-name.invariant.grown.bank c.local.ensures.bank

pub returns-in_err-local-clause-full : goal.returns-in_err-local-clause-full
returns-in_err-local-clause-full c = λ words h.
    let text = c.args.self.now.source.now in
    let names = c.args.names.now in
    let i = c.loop-name.name-index in
    passed_up c.from_residual.result c.in_err-local.field-0.0 (λ e. (f : SigFault) → e ≡ wrong.Sig f → HasNameCause text words names f) c.from_residual.ensures.1
    (λ f e. cause_more text words names i _ f c.loop-name-test.true (c.in_err-local.ensures.full (words ++ map (λ s. spelled text s) (take i names)) (c.loop-name.invariant.words words h) f e))

pub returns-in_err-local-clause-other : goal.returns-in_err-local-clause-other
returns-in_err-local-clause-other c = λ words inside h.
    let text = c.args.self.now.source.now in
    let names = c.args.names.now in
    let i = c.loop-name.name-index in
    let b = c.args.making.now.bodies.types.bank in
    let now = c.local.new.making.bodies.types.bank in
    passed_up c.from_residual.result c.in_err-local.field-0.0 (λ e. (f : SigFault) → e ≡ wrong.Sig f → AreOtherIds text now c.args.making.now.constants names c.args.declared f) c.from_residual.ensures.1
    (λ f e. others_more b now c.args.making.now.constants c.loop-name.making.constants text names i _ c.args.declared f c.loop-name-test.true
    (extends-trans b c.loop-name.making.bodies.types.bank now c.loop-name.invariant.grown.bank c.local.ensures.bank) inside c.loop-name.invariant.adds
    (c.in_err-local.ensures.other (words ++ map (λ s. spelled text s) (take i names)) (c.loop-name.invariant.words words h) f e))
