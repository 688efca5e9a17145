-- The type variables that a clause of a program makes, and variables with which records start.
use Rattle.std.proofs.Common.{◌≡◌, ◌∙◌, ℕ, zero, suc, ◌+◌, List, [], ◌∷◌, ◌++◌, Bool, true, false, Bor, Option, Some, None, ap, refl, sym, subst, true≢false}
use Rattle.std.specs.Prelude.{is_none, is_some, not}
use Rattle.lp_calculus.specs.Spine.{arguments}
use Rattle.lp_term.specs.Nodes.{Nodes, tree}
use Rattle.lp_model.specs.declared.clause.Clause.{Clause}
use Rattle.lp_code.specs.declared.instruction.Instr.{Instr}
use Rattle.lp_code.specs.declared.record.Key.{Key}
use Rattle.lp_code.specs.declared.record.Key.TheVariants as key
use Rattle.lp_code.specs.Denote.{key_is}
use Rattle.lp_gen.specs.declared.plan.Origin.{Origin}
use Rattle.lp_gen.specs.declared.plan.Origin.TheVariants as origin
use Rattle.lp_gen.specs.declared.emitter.Emitter.{Emitter}
use Rattle.lp_gen.specs.Steps.{Seen, Around}
use Rattle.lp_gen.specs.inner.Owned.{makes}
use Rattle.lp_gen.specs.inner.Entering.{news, TypesMade}
use Rattle.lp_gen.specs.inner.BodyCode.{AreStarts}
use Rattle.lp_gen.specs.inner.Recorded.{TypesWritten, HasKey, first_key_of}

pub starts_as : (A : Around) (ls : List ℕ) (f g : ℕ → Option Seen) (m n : ℕ) → ((l : ℕ) → g l ≡ f l) → n ≡ m → AreStarts A ls f m → AreStarts A ls g n
starts_as A ls f g m n e many x = record {
  count_is = many ∙ x.count_is;
  given = λ i l at. let w = x.given i l at in (w.0, w.1, e l ∙ w.2);
  only = λ l v at. x.only l v (sym (e l) ∙ at);
}

pub written_registers : (p : Bool) (e e' : Emitter) (n : ℕ) → TypesWritten p e e' n → e'.registers ≡ e.registers
written_registers true e e' n x = x.registers_stay
written_registers false e e' n x = x.2

pub first_same : (x y : ℕ) (xs ys : List ℕ) → ◌≡◌ {A = List ℕ} (x ∷ xs) (y ∷ ys) → x ≡ y
first_same x y xs ys e = cc

-- the code of type variables
abbrev pub types_code : (program : Bool) → ℕ → ℕ → List Instr
types_code true first n = news first n
types_code false first n = []

pub written_code : (p : Bool) (e e' : Emitter) (n : ℕ) → TypesWritten p e e' n → e.code.items ≡ [] → e'.code.items ≡ types_code p e.types n
written_code true e e' n x none = x.code_is ∙ ap (λ l. l ++ news e.types n) none
written_code false e e' n x none = x.0 ∙ none

pub same_types : (p : Bool) (e e' : Emitter) (n : ℕ) → TypesWritten p e e' n → p ≡ false → e'.types ≡ e.types
same_types true e e' n x q = absurd (true≢false q)
same_types false e e' n x q = x.1

pub more_types : (p : Bool) (e e' : Emitter) (n : ℕ) → TypesWritten p e e' n → p ≡ true → e'.types ≡ e.types + n
more_types true e e' n x q = x.types_are
more_types false e e' n x q = absurd (true≢false (sym q))

pub news_make : (r n : ℕ) → makes (news r n) ≡ []
news_make r zero = refl
news_make r (suc n) = news_make (suc r) n

pub types_make : (p : Bool) (r n : ℕ) → makes (types_code p r n) ≡ []
types_make true r n = news_make r n
types_make false r n = refl

pub no_types : (p : Bool) (e : Emitter) (n : ℕ) → p ≡ false → TypesWritten p e e n
no_types true e n q = absurd (true≢false q)
no_types false e n q = (refl, refl, refl)

pub made_types : (p : Bool) (e e' : Emitter) (n : ℕ) → p ≡ true → TypesMade e e' n → TypesWritten p e e' n
made_types true e e' n q w = w
made_types false e e' n q w = absurd (true≢false (sym q))

-- the key of what is no clause of a program

pub no_key : (b : Nodes) (o : Origin) (p : Bool) → ((c : Bor Clause) → o ≡ origin.Clause c → ⊥) → HasKey b o p key.None
no_key b (origin.Clause c) p none = absurd (none c refl)
no_key b (origin.Query q gs) p none = refl

pub inner_key : (b : Nodes) (o : Origin) (p : Bool) (c : Bor Clause) → o ≡ origin.Clause c → p ≡ false → HasKey b o p key.None
inner_key b o true c e q = absurd (true≢false q)
inner_key b o false c e q = subst (λ (u : Origin). HasKey b u false key.None) (sym e) refl

pub outer_key : (b : Nodes) (o : Origin) (p : Bool) (c : Bor Clause) (k : Key) → o ≡ origin.Clause c → p ≡ true → key_is k (first_key_of (arguments (tree b c.now.head.0))) ≡ true → HasKey b o p k
outer_key b o true c k e q is = subst (λ (u : Origin). HasKey b u true k) (sym e) is
outer_key b o false c k e q is = absurd (true≢false (sym q))

pub none_of : {X : Type 0} (o : Option X) (b : Bool) → is_some o ≡ not b → b ≡ is_none o
none_of None true e = refl
none_of None false e = absurd (true≢false (sym e))
none_of (Some x) true e = absurd (true≢false e)
none_of (Some x) false e = refl
