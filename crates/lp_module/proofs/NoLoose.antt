-- The clauses of a module and of a program have no loose index.
use Rattle.std.proofs.Common.{◌≡◌, ℕ, zero, suc, ◌+◌, List, [], ◌∷◌, length, map, get_or, sym, subst, arith}
use Rattle.std.specs.Prelude.{All}
use Rattle.std.proofs.lemmas.Option.{slice_get_within}
use Rattle.std.proofs.lemmas.List.Elements.{All-nil, All-cons, All-append, All-head, All-tail, All-map}
use Rattle.lp_lemmas.proofs.Elements.{All_unmap}
use Rattle.lp_calculus.specs.Types.{Ty}
use Rattle.lp_calculus.specs.Term.{Term, Atom, index, atom, abs, app, constant, integer, text, eigen, logic, param}
use Rattle.lp_term.specs.Mapped.{mapped}
use Rattle.lp_term.specs.Nodes.{Nodes, tree}
use Rattle.lp_term.specs.Spine.{LooseBelow}
use Rattle.lp_syntax.specs.declared.text.RawTerm.{RawTerm}
use Rattle.lp_model.specs.Flat.{all_of}
use Rattle.lp_model.specs.Flatten.{ClauseFormula}
use Rattle.lp_model.specs.Readings.{formula_of}
use Rattle.lp_model.specs.declared.program.ClauseFormula as code
use Rattle.lp_sig.specs.declared.signature.Signature.{Signature}
use Rattle.lp_infer.specs.Typing.{Raw, raw_index, raw_constant, raw_integer, raw_text, raw_abs, raw_app, Elaborates}
use Rattle.lp_module.specs.Clauses.{AreClauses}
use Rattle.lp_module.specs.Closed.{AreClosedIn, AreClosedModules}
use Rattle.lp_module.specs.Program.{Copy, map_of, in_copy, clauses_in, clauses_of, IsProgram}
use Rattle.lp_module.specs.declared.copies.Assembled.{Assembled}
use Rattle.lp_module.specs.declared.module.Module.{Module}

-- a term has no loose index but those whose types are given
typed_loose : (R : Raw) (C : List Ty) (t : Term) (A : Ty) (n d : ℕ) → length C ≡ d + n → Elaborates C R t A → LooseBelow n d t
typed_loose (raw_index i) C t A n d e h = let l = slice_get_within C i A h.1 in subst (LooseBelow n d) (sym h.0) (omega (arith, l, e))
typed_loose (raw_constant c s) C t A n d e h = subst (LooseBelow n d) (sym h.1) tt
typed_loose (raw_integer z) C t A n d e h = subst (LooseBelow n d) (sym h.0) tt
typed_loose (raw_text s) C t A n d e h = subst (LooseBelow n d) (sym h.0) tt
typed_loose (raw_abs given b) C t A n d e (s, i, P, R, j, g, k) =
    let more : length (P ∷ C) ≡ suc d + n = omega (arith, e) in
    subst (LooseBelow n d) (sym i) (typed_loose b (P ∷ C) s R n (suc d) more k)
typed_loose (raw_app f u) C t A n d e (g, v, i, P, j, k) = subst (LooseBelow n d) (sym i) (typed_loose f C g _ n d e j, typed_loose u C v P n d e k)

-- one variable is bound
deeper : (n d : ℕ) (t : Term) → LooseBelow (suc n) d t → LooseBelow n (suc d) t
deeper n d (index i) h = omega (arith, h)
deeper n d (atom a) h = tt
deeper n d (abs b) h = deeper n (suc d) b h
deeper n d (app t u) (h, k) = (deeper n d t h, deeper n d u k)

all_closed : (Ts : List Ty) (t : Term) → LooseBelow (length Ts) 0 t → LooseBelow 0 0 (all_of Ts t)
all_closed [] t h = h
all_closed (T ∷ Ts) t h = all_closed Ts _ (tt, deeper (length Ts) 0 t h)

-- the clauses of sentences
pub closed_clauses : (names : Signature) (bytes : List ℕ) (b : Nodes) (raws : List RawTerm) (ks : List code.ClauseFormula) → AreClauses names bytes b raws ks → AreClosedIn b ks
closed_clauses names bytes b [] [] h = All-nil (λ c. LooseBelow 0 0 (tree b c.formula.0))
closed_clauses names bytes b [] (k ∷ ks) h = absurd (h)
closed_clauses names bytes b (r ∷ rs) [] h = absurd (h)
closed_clauses names bytes b (r ∷ rs) (k ∷ ks) (h, more) =
    let typing = h.typed.principal.typing in
    let free = h.typing.free in
    All-cons (λ c. LooseBelow 0 0 (tree b c.formula.0)) k ks
    (subst (LooseBelow 0 0) (sym h.closed) (all_closed free h.typing.formula (typed_loose typing.looked_up free h.typing.formula _ (length free) 0 (omega arith) typing.elaborates)))
    (closed_clauses names bytes b rs ks more)

-- in a copy
copied_atom : (c : Copy) (n d : ℕ) (a : Atom) → LooseBelow n d (mapped (map_of c) (atom a))
copied_atom c n d (constant k ts) = tt
copied_atom c n d (integer z) = tt
copied_atom c n d (text s) = tt
copied_atom c n d (eigen k) = tt
copied_atom c n d (logic x l) = tt
copied_atom c n d (param k T) = tt

copied_loose : (c : Copy) (n d : ℕ) (t : Term) → LooseBelow n d t → LooseBelow n d (mapped (map_of c) t)
copied_loose c n d (index i) h = h
copied_loose c n d (atom a) h = copied_atom c n d a
copied_loose c n d (abs b) h = copied_loose c n (suc d) b h
copied_loose c n d (app t u) (h, k) = (copied_loose c n d t h, copied_loose c n d u k)

abbrev IsClosed : ClauseFormula → Type 0
IsClosed f = LooseBelow 0 0 f.formula

at_member : (modules : List Module) (k : ℕ) → AreClosedModules modules → All IsClosed (get_or (map clauses_in modules) k [])
at_member [] k h = All-nil IsClosed
at_member (m ∷ ms) zero h = All-map IsClosed (formula_of m.bank) m.clauses.items (All-head (λ m. AreClosedIn m.bank m.clauses.items) m ms h)
at_member (m ∷ ms) (suc k) h = at_member ms k (All-tail (λ m. AreClosedIn m.bank m.clauses.items) m ms h)

copied_clauses : (c : Copy) (fs : List ClauseFormula) → All IsClosed fs → All IsClosed (map (in_copy c) fs)
copied_clauses c [] h = All-nil IsClosed
copied_clauses c (f ∷ fs) h = All-cons IsClosed (in_copy c f) (map (in_copy c) fs) (copied_loose c 0 0 f.formula (All-head IsClosed f fs h)) (copied_clauses c fs (All-tail IsClosed f fs h))

all_copies : (modules : List Module) (cs : List Copy) → AreClosedModules modules → All IsClosed (clauses_of modules cs)
all_copies modules [] h = All-nil IsClosed
all_copies modules (c ∷ cs) h = All-append IsClosed (map (in_copy c) (get_or (map clauses_in modules) c.member [])) (clauses_of modules cs)
    (copied_clauses c (get_or (map clauses_in modules) c.member []) (at_member modules c.member h)) (all_copies modules cs h)

pub closed_program : (modules : List Module) (root : ℕ) (a : Assembled) → IsProgram modules root a → AreClosedModules modules → AreClosedIn a.program.bank a.program.clauses.items
closed_program modules root a is h = All_unmap IsClosed (formula_of a.program.bank) a.program.clauses.items (subst (All IsClosed) (sym is.clause_list) (all_copies modules is.copied h))
