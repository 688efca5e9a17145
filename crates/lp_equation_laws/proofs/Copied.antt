-- The copied clauses of accepted modules are sentences of pattern text.
use Rattle.std.proofs.Common.{◌≡◌, ℕ, zero, suc, List, [], ◌∷◌, ◌++◌, map, get_or, refl}
use Rattle.std.specs.Prelude.{All}
use Rattle.std.proofs.lemmas.List.Elements.{All-head, All-tail}
use Rattle.lp_lemmas.specs.Each.{EachOf}
use Rattle.lp_calculus.specs.Types.{var}
use Rattle.lp_calculus.specs.Fill.{Within}
use Rattle.lp_term.specs.Mapped.{Map, mapped}
use Rattle.lp_term.specs.Nodes.{Nodes, tree}
use Rattle.lp_model.specs.Flatten.{ClauseFormula}
use Rattle.lp_model.specs.Readings.{formula_of}
use Rattle.lp_model.specs.declared.program.ClauseFormula as code
use Rattle.lp_model.specs.Proofs.{Declared}
use Rattle.lp_search_laws.specs.Started.{IsQueryAtom, IsTypedSentence}
use Rattle.lp_pattern_laws.specs.Formulas.{IsPatternSentence, IsRenumbering}
use Rattle.lp_module.specs.Program.{Copy, map_of, in_copy, clauses_in, clauses_of}
use Rattle.lp_module.specs.declared.module.Module.{Module}
use Rattle.lp_lambda.specs.First.{ArePatternClauses, formulas_of, terms_of}
use Rattle.lp_lambda.specs.Pattern.{IsPatternClause}
use Rattle.lp_solve.proofs.Texts.Program.{IsFair}
use Rattle.lp_module.proofs.HighNumbers.{IsHigh}

-- the numbers of copies
pub renumberings : (cs : List Copy) → EachOf IsFair cs → EachOf IsHigh cs → EachOf (λ c. IsRenumbering (map_of c)) cs
renumberings [] f h = tt
renumberings (c ∷ cs) (f, fs) (h, hs) = (record { standard = f.constants; declared = h; terms = λ x l. refl }, renumberings cs fs hs)

each_accepted : (b : Nodes) (ks : List code.ClauseFormula) → All IsPatternClause (terms_of b ks) → EachOf (λ f. IsPatternClause f.formula) (map (formula_of b) ks)
each_accepted b [] h = tt
each_accepted b (k ∷ ks) h = (All-head IsPatternClause (tree b k.formula.0) (terms_of b ks) h, each_accepted b ks (All-tail IsPatternClause (tree b k.formula.0) (terms_of b ks) h))

member_accepted : (modules : List Module) → All ArePatternClauses (map formulas_of modules) → (k : ℕ) → EachOf (λ f. IsPatternClause f.formula) (get_or (map clauses_in modules) k [])
member_accepted [] h k = tt
member_accepted (m ∷ ms) h zero = each_accepted m.bank m.clauses.items (All-head ArePatternClauses (formulas_of m) (map formulas_of ms) h)
member_accepted (m ∷ ms) h (suc k) = member_accepted ms (All-tail ArePatternClauses (formulas_of m) (map formulas_of ms) h) k

module _
    (accepted : (D : ClauseFormula) → Within (IsQueryAtom D.type_vars) 0 D.formula → IsPatternClause D.formula → IsPatternSentence D)
    (renumbered : (m : Map) → IsRenumbering m → (D : ClauseFormula) → IsPatternSentence D → IsPatternSentence (record { type_vars = D.type_vars; formula = mapped m D.formula }))
    (own : (m : Map) → IsRenumbering m → ((x : ℕ) → m.types x ≡ var x) → (D : ClauseFormula) → Within (IsQueryAtom D.type_vars) 0 (mapped m D.formula) → Within (IsQueryAtom D.type_vars) 0 D.formula)
    (d : Declared) (modules : List Module) (judged : All ArePatternClauses (map formulas_of modules)) where
  in_front : (c : Copy) → IsRenumbering (map_of c) → (fs more : List ClauseFormula) → EachOf (IsTypedSentence d) (map (in_copy c) fs ++ more) → EachOf (λ f. IsPatternClause f.formula) fs
      → (EachOf (IsTypedSentence d) more → EachOf IsPatternSentence more) → EachOf IsPatternSentence (map (in_copy c) fs ++ more)
  in_front c r [] more t h go = go t
  in_front c r (f ∷ fs) more (x, t) (y, h) go = (
    renumbered (map_of c) r f (accepted f (own (map_of c) r (λ x. refl) f x.within) y),
    in_front c r fs more t h go,
  )

  pub copied : (cs : List Copy) → EachOf (λ c. IsRenumbering (map_of c)) cs → EachOf (IsTypedSentence d) (clauses_of modules cs) → EachOf IsPatternSentence (clauses_of modules cs)
  copied [] r t = tt
  copied (c ∷ cs) (x, r) t = in_front c x (get_or (map clauses_in modules) c.member []) (clauses_of modules cs) t (member_accepted modules judged c.member) (copied cs r)
