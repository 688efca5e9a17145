-- Where all stand, constants that are taken one after the other have the types of the first ones of their names.
use Rattle.std.proofs.Common.{◌≡◌, ℕ, suc, List, [], ◌∷◌, ◌++◌, get_or, true, subst, append_assoc}
use Rattle.std.specs.Prelude.{All, is_some}
use Rattle.std.proofs.lemmas.List.Elements.{All-append, All-nil, All-cons, All-head, All-tail}
use Rattle.lp_calculus.specs.Types.{Ty}
use Rattle.lp_term.specs.Nodes.{Nodes}
use Rattle.lp_syntax.specs.declared.text.Declaration.{Declaration}
use Rattle.lp_sig.specs.Rows.{Row}
use Rattle.lp_sig.specs.Said.{Said, said_in}
use Rattle.lp_sig.specs.Types.{Definition, definitions_in}
use Rattle.lp_sig.specs.Standing.{seen_count, AllStand, TypeStands}
use Rattle.lp_sig.specs.Abbreviations.{Seen, seen_text}
use Rattle.lp_sig.specs.Constants.{Written, constants_in, declared_constants, HasType, standard_one, declared_one, HasFirstType, HaveFirstTypes, AreTakenConstants, AreInStep, IsNoted, KnowsConstants, AreTyped, AreTypedIf}
use Rattle.lp_sig.specs.declared.constants.Constant.{Constant}
use Rattle.lp_sig.specs.declared.constants.Constants.{Constants}
use Rattle.lp_sig.proofs.AllStanding.{all_types_stand}
use Rattle.lp_sig.proofs.Constancy.{scheme_stays, has_more}

has_stays : (said more : List (Row Said)) (defs others : List (Row Definition)) (rows : List (Row Written)) (name : List ℕ) (t : Ty) → HasType said defs rows name t → HasType (said ++ more) (defs ++ others) rows name t
has_stays said more defs others rows name t (standard_one n e f) = standard_one n e f
has_stays said more defs others rows name t (declared_one none w e count s) = declared_one none w e count (scheme_stays said more defs others w count t s)

-- more is said, and more constants are declared
first_stays : (said more : List (Row Said)) (defs others : List (Row Definition)) (all rows : List (Row Written)) → HaveFirstTypes said defs all rows → HaveFirstTypes (said ++ more) (defs ++ others) all rows
first_stays said more defs others all rows h = λ k d l.
    let row = get_or rows k d in
    let a = h k d l in
    record { count = a.count; tree = a.tree; scheme = scheme_stays said more defs others row.1 a.count a.tree a.scheme; first = has_stays said more defs others all row.0 a.tree a.first }

one_first : (said : List (Row Said)) (defs : List (Row Definition)) (all more : List (Row Written)) (row : Row Written) → HasFirstType said defs all row → HasFirstType said defs (all ++ more) row
one_first said defs all more row a = record { count = a.count; tree = a.tree; scheme = a.scheme; first = has_more said defs all more row.0 a.tree a.first }

first_more : (said : List (Row Said)) (defs : List (Row Definition)) (all more rows : List (Row Written)) → HaveFirstTypes said defs all rows → HaveFirstTypes said defs (all ++ more) rows
first_more said defs all more rows h = λ k d l. one_first said defs all more (get_or rows k d) (h k d l)

module _ (from : ℕ) (z : Seen) (all : AllStand from z) where
  -- constants that are taken
  taken_first : (rows more : List (Row Written)) → AreTakenConstants from z rows more → HaveFirstTypes z.said z.definitions (rows ++ more) more
  taken_first rows [] t = All-nil (HasFirstType z.said z.definitions (rows ++ []))
  taken_first rows (row ∷ more) t =
      let same = append_assoc rows (row ∷ []) more in
      All-cons (HasFirstType z.said z.definitions (rows ++ row ∷ more)) row more
      (subst (λ r. HasFirstType z.said z.definitions r row) same (one_first z.said z.definitions (rows ++ row ∷ []) more row (t.0.typed (all_types_stand from z all row.1.text row.1.raw) (λ w e f. all_types_stand from z all w.text w.raw))))
      (subst (λ r. HaveFirstTypes z.said z.definitions r more) same (taken_first (rows ++ row ∷ []) more t.1))

  in_step_typed : (n : ℕ) (rows : List (Row Written)) (cs : List Constant) → AreInStep (λ n row c. TypeStands from z row.1.text row.1.raw → is_some c.declared ≡ true) n rows cs → All (λ c. is_some c.declared ≡ true) cs
  in_step_typed n [] [] h = All-nil (λ c. is_some c.declared ≡ true)
  in_step_typed n [] (c ∷ cs) h = absurd h
  in_step_typed n (r ∷ rs) [] h = absurd h
  in_step_typed n (r ∷ rs) (c ∷ cs) h = All-cons (λ c. is_some c.declared ≡ true) c cs (h.0 (all_types_stand from z all r.1.text r.1.raw)) (in_step_typed (suc n) rs cs h.1)

  -- each of them has a type
  pub all_typed : (rows : List (Row Written)) (constants : Constants) → AreTypedIf from z rows constants → AreTyped constants
  all_typed rows constants h = in_step_typed 32 (declared_constants rows) constants.constants.items h

-- behind a text
pub all_first : (z : Seen) (text : List ℕ) (lines : List Declaration) (rows : List (Row Written)) → HaveFirstTypes z.said z.definitions rows rows → AllStand (seen_count z) (seen_text z text lines) → AreTakenConstants (seen_count z) (seen_text z text lines) rows (constants_in text lines) →
    HaveFirstTypes (seen_text z text lines).said (seen_text z text lines).definitions (rows ++ constants_in text lines) (rows ++ constants_in text lines)
all_first z text lines rows before all taken =
    let said = z.said ++ said_in text lines in
    let defs = z.definitions ++ definitions_in text lines in
    let new = constants_in text lines in
    All-append (HasFirstType said defs (rows ++ new)) rows new (first_more said defs rows new rows (first_stays z.said (said_in text lines) z.definitions (definitions_in text lines) rows rows before)) (taken_first (seen_count z) (seen_text z text lines) all rows new taken)

-- where each constant has a type, each has one if its row stands
module _ (b : Nodes) (said : List (Row Said)) (defs : List (Row Definition)) (from : ℕ) (z : Seen) where
  typed_in_step : (n : ℕ) (rows : List (Row Written)) (cs : List Constant) → AreInStep (IsNoted b said defs) n rows cs → All (λ c. is_some c.declared ≡ true) cs → AreInStep (λ n row c. TypeStands from z row.1.text row.1.raw → is_some c.declared ≡ true) n rows cs
  typed_in_step n [] [] h all = tt
  typed_in_step n [] (c ∷ cs) h all = absurd h
  typed_in_step n (r ∷ rs) [] h all = absurd h
  typed_in_step n (r ∷ rs) (c ∷ cs) h all = (λ s. All-head (λ c. is_some c.declared ≡ true) c cs all, typed_in_step (suc n) rs cs h.1 (All-tail (λ c. is_some c.declared ≡ true) c cs all))

  pub typed_if : (rows : List (Row Written)) (constants : Constants) → KnowsConstants b constants said defs rows → AreTyped constants → AreTypedIf from z rows constants
  typed_if rows constants k all = typed_in_step 32 (declared_constants rows) constants.constants.items k.are all
