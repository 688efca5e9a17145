-- The query of a text in a bank that grows, and where its numbers stand.
use Rattle.std.proofs.Common.{◌≡◌, ℕ, true, List, map, length, Option, refl, sym, ap, subst, ◌∙◌, arith}
use Rattle.std.specs.Prelude.{Result, Ok, Err, IfOk}
use Rattle.std.proofs.lemmas.List.{length-map, length-reverse}
use Rattle.lp_calculus.specs.Typing.{o_type}
use Rattle.lp_fixity.specs.declared.table.Table.{Table}
use Rattle.lp_term.specs.Nodes.{Nodes, Extends, type_tree}
use Rattle.lp_model.specs.declared.program.Typed.{Typed}
use Rattle.lp_sig.specs.declared.signature.Signature.{Signature}
use Rattle.lp_base.specs.Held.{Held}
use Rattle.lp_module.specs.declared.copies.Assembled.{Assembled}
use Rattle.lp_build.specs.Ordered.{AreInOrder}
use Rattle.lp_build.specs.Reads.{AreRead}
use Rattle.lp_build.specs.Told.{AreLoaded}
use Rattle.lp_build.specs.declared.build.Built.{Built}
use Rattle.lp_build.specs.declared.sources.Sources.{Sources}
use Rattle.lp_lines.specs.declared.refusal.Refusal.{Refusal}
use Rattle.lp_infer.specs.Numbering.{typing_of}
use Rattle.lp_build.proofs.Closed.{typed_loose}
use Rattle.lp_cert.specs.Inside.{IsQueryInside}
use Rattle.lp_cert.specs.Standing.{IsSameProgram}
use Rattle.lp_load.specs.Asked.{IsAsked}
use Rattle.lp_load.specs.Loaded.{HasGrown, IsBuiltFrom}
use Rattle.lp_load.proofs.Asking.{asked_stays}
use Rattle.lp_load.proofs.Programs.{built_later}
use Rattle.lp_judge.specs.Asked.{IsAskedFrom, IsAskedOf}
use Rattle.lp_judge.specs.Negated.{AreWithoutNot, texts_of}
use Rattle.lp_judge.specs.declared.asking.Asked.{Asked}

module _ (names later : Assembled) (grown : Extends names.program.bank later.program.bank) (same : IsSameProgram names later) where
  named_later : (built : Built) → built.assembled ≡ names → HasGrown built (record { assembled = later; signature = built.signature; table = built.table })
  named_later built e = record {
    bank = subst (λ a. Extends a.program.bank later.program.bank) (sym e) grown;
    constants = same.declared ∙ ap (λ a. a.program.constants) (sym e);
    clauses = same.clauses ∙ ap (λ a. a.program.clauses) (sym e);
    kinds = same.kinds ∙ ap (λ a. a.kinds) (sym e);
    names = same.constants ∙ ap (λ a. a.constants) (sym e);
    signature = refl;
    table = refl;
  }

-- what was asked of a program stays so where its bank grows
pub asked_later : (told : Option Held) (name text : List ℕ) (names later : Assembled) (q : Typed) → Extends names.program.bank later.program.bank → IsSameProgram names later
    → IsAskedFrom told name text names q → IsAskedFrom told name text later q
asked_later told name text names later q grown same h = record {
  built = record { assembled = later; signature = h.built.signature; table = h.built.table };
  program = record {
    sources = h.program.sources;
    ordered = h.program.ordered;
    files = h.program.files;
    read = h.program.read;
    program = built_later h.program.sources h.built _ (named_later names later grown same h.built h.same) h.program.program;
  };
  same = refl;
  asked = asked_stays names.program.bank later.program.bank grown h.built.table h.built.signature text q h.asked;
  without = h.without;
}

-- what was asked of the program of files, which has grown since
pub asked_of_files : (sources : Sources) (text bytes : List ℕ) (old new : Built) (q : Typed) → bytes ≡ text → IsBuiltFrom sources old → HasGrown old new
    → IsAsked old.table old.signature bytes new.assembled.program.bank q → AreWithoutNot (texts_of sources.files.items text) → IsAskedOf sources text new.assembled q
asked_of_files sources text bytes old new q e is grown h without = record {
  built = new;
  program = built_later sources old new grown is;
  same = refl;
  asked =
      subst (λ t. IsAsked t new.signature text new.assembled.program.bank q) (sym grown.table)
      (subst (λ s. IsAsked old.table s text new.assembled.program.bank q) (sym grown.signature)
      (subst (λ w. IsAsked old.table old.signature w new.assembled.program.bank q) e h));
  without = without;
}

-- what was asked of the files that the folder tells
pub asked_from : (told : Option Held) (name text : List ℕ) (sources : Sources) (r : Result Asked Refusal) → AreInOrder true name sources → AreLoaded told sources → AreRead sources → IfOk r (λ a. IsAskedOf sources text a.names a.query)
    → IfOk r (λ a. IsAskedFrom told name text a.names a.query)
asked_from told name text sources (Ok a) ordered files read h = record {
  built = h.built;
  program = record { sources = sources; ordered = ordered; files = files; read = read; program = h.program };
  same = h.same;
  asked = h.asked;
  without = h.without;
}
asked_from told name text sources (Err e) ordered files read h = tt

-- the query of a text stands in its bank
pub query_inside : (operators : Table) (names : Signature) (text : List ℕ) (b : Nodes) (q : Typed) → IsAsked operators names text b q → IsQueryInside b q
query_inside operators names text b q h = record {
  vars = h.stands.types;
  formula = h.stands.formula;
  indices =
      let typing = h.typed.principal.typing in
      let long : length (typing_of b q).free ≡ length q.vars.items = length-reverse (map (λ v. type_tree b v.1.0) q.vars.items) ∙ length-map q.vars.items (λ v. type_tree b v.1.0) in
      typed_loose typing.looked_up (typing_of b q).free (typing_of b q).formula o_type (length q.vars.items) 0 (omega (arith, long)) typing.elaborates;
}
