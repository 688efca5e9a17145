-- What is read as a proof, a certificate and a file is spelled so.
use Rattle.std.proofs.Common.{◌≡◌, ℕ, zero, suc, ◌+◌, ◌^◌, ◌<◌, ◌≤◌, Bool, true, false, cond, eqb, ltb, List, [], ◌∷◌, ◌++◌, length, get_or, Result, Ok, Err, refl, sym, ap, subst, ◌∙◌, append_assoc, arith, inl, inr}
use Rattle.std.specs.List.{flat_map, AllByRecursion}
use Rattle.std.proofs.lemmas.Bool.{eqb-true, ltb-false}
use Rattle.std.proofs.lemmas.List.{append-nil}
use Rattle.lp_calculus.specs.Types.{Ty}
use Rattle.lp_calculus.specs.Term.{Term}
use Rattle.lp_bytes.specs.declared.fault.Fault.{Fault}
use Rattle.lp_bytes.specs.declared.fault.Fault.TheVariants.{BadField, BadVersion}
use Rattle.lp_bytes.specs.Numbers.{spelled_two, spelled_four}
use Rattle.lp_bytes.specs.Spellable.{AreWhole}
use Rattle.lp_bytes.specs.Reading.{Left, left, Read, ◌>>=◌, byte_at, two_at, four_at, each_at, nested_at, file_of, magic_at, all_read}
use Rattle.lp_bytes.proofs.Taking.{IsBytes, bind_ok, ok_is, guard_ok, held, chosen, Takes, takes_then, takes_as, takes_none, byte_takes, two_takes, four_takes, each_take, nested_take, magic_takes, all_is_read, file_is}
use Rattle.lp_cert.specs.Arities.{Counts}
use Rattle.lp_cert.specs.Written.{Node, converted, trivial, pair, left_side, right_side, witness, general, assuming, equated, counted, back_to, focus_converted, focus_witness, side, premise, hit}
use Rattle.lp_cert.specs.Certified.{Certificate}
use Rattle.lp_cert.specs.Spelling.{spelled_type, spelled_term, spelled_node, spelled_certificate, spelled_certificates}
use Rattle.lp_cert.specs.Spellable.{IsType, IsTerm, IsNode, IsCertificate, AreCertificates}
use Rattle.lp_cert.specs.Reading.{as_read, types_at, term_at, terms_at, nodes_below, back_at, goal_node_at, side_at, focus_node_at, sorted_node_at, node_at, proof_at, certificate_at, version_at, certificates_of}
use Rattle.lp_cert.specs.declared.nodes.Sort.{Sort}
use Rattle.lp_cert.specs.declared.nodes.Sort.TheVariants as sorts
use Rattle.lp_cert.proofs.TypesFound.{types_take}
use Rattle.lp_cert.proofs.TermsFound.{term_takes, terms_take}

-- what is read behind a first byte
abbrev Behind : Counts → Sort → ℕ → Left → Node → Left → Type 0
Behind d sort tag s x t = (text : List ℕ) × Takes s text t × (spelled_node x ≡ tag ∷ text) × IsNode d sort x

behind_tag : (d : Counts) (sort : Sort) (tag n : ℕ) (s : Left) (x : Node) (t : Left) → tag ≡ n → Behind d sort n s x t → Behind d sort tag s x t
behind_tag d sort tag n s x t e b = subst (λ m. Behind d sort m s x t) (sym e) b

abbrev done : Node → Left → Read Node
done x s = Ok (x, s)

behind_alone : (d : Counts) (sort : Sort) (n : ℕ) (y : Node) (s : Left) (x : Node) (t : Left) → IsBytes s.rest → spelled_node y ≡ n ∷ [] → IsNode d sort y → done y s ≡ Ok (x, t) → Behind d sort n s x t
behind_alone d sort n y s x t h same is e = subst (λ (z : Node × Left). Behind d sort n s z.0 z.1) (ok_is (y, s) (x, t) e) ([], takes_none s h, same, is)

behind_as : {A : Type 0} (d : Counts) (sort : Sort) (tag : ℕ) (g : A → Node) (spell : A → List ℕ) (P : A → Type 0) → ((x : A) → spelled_node (g x) ≡ tag ∷ spell x) → ((x : A) → P x → IsNode d sort (g x))
    → (s : Left) (r : Read A) → ((x : A) (u : Left) → r ≡ Ok (x, u) → Takes s (spell x) u × P x) → (y : Node) (t : Left) → as_read g r ≡ Ok (y, t) → Behind d sort tag s y t
behind_as d sort tag g spell P same kept s r k y t e =
    let a = bind_ok r (λ x. Ok (g x.0, x.1)) (y, t) e in
    let p = k a.0.0 a.0.1 a.1 in
    subst (λ (z : Node × Left). Behind d sort tag s z.0 z.1) (ok_is (g a.0.0, a.0.1) (y, t) a.2) (spell a.0.0, p.0, same a.0.0, kept a.0.0 p.1)

behind_term : (d : Counts) (sort : Sort) (tag : ℕ) (g : Term → Node) → ((x : Term) → spelled_node (g x) ≡ tag ∷ spelled_term x) → ((x : Term) → IsTerm d x → IsNode d sort (g x))
    → (s : Left) (y : Node) (t : Left) → IsBytes s.rest → as_read g (term_at d s) ≡ Ok (y, t) → Behind d sort tag s y t
behind_term d sort tag g same kept s y t h e = behind_as d sort tag g spelled_term (IsTerm d) same kept s (term_at d s) (λ x u i. term_takes d s x u h i) y t e

back_takes : (d : Counts) (s : Left) (x : Node) (t : Left) → IsBytes s.rest → back_at d s ≡ Ok (x, t) → Behind d sorts.Proof 10 s x t
unfolding back_at
back_takes d s x t h e =
    let a = bind_ok (four_at s) (λ c. two_at c.1 >>= λ n. as_read (back_to c.0) (types_at d n.0 n.1)) (x, t) e in
    let b = bind_ok (two_at a.0.1) (λ n. as_read (back_to a.0.0) (types_at d n.0 n.1)) (x, t) a.2 in
    let p = four_takes s a.0.0 a.0.1 h a.1 in
    let q = two_takes a.0.1 b.0.0 b.0.1 p.0.bytes b.1 in
    behind_as d sorts.Proof 10 (back_to a.0.0) (λ ts. spelled_four a.0.0 ++ (spelled_two (length ts) ++ flat_map spelled_type ts)) (λ ts. (length ts ≡ b.0.0) × AllByRecursion (IsType d) ts) (λ ts. refl)
    (λ ts k. (p.1, omega (arith, k.0, q.1), k.1)) s (types_at d b.0.0 b.0.1)
    (λ ts v i.
    let r = types_take d b.0.0 b.0.1 ts v q.0.bytes i in (
      takes_then s (spelled_four a.0.0) a.0.1 (spelled_two (length ts) ++ flat_map spelled_type ts) v p.0
          (takes_then a.0.1 (spelled_two (length ts)) b.0.1 (flat_map spelled_type ts) v (takes_as a.0.1 (spelled_two b.0.0) (spelled_two (length ts)) b.0.1 (ap (λ m. spelled_two m) (sym r.1)) q.0) r.0),
      (r.1, r.2),
    ))
    x t b.2

side_takes : (s : Left) (b : ℕ) (t : Left) → IsBytes s.rest → side_at s ≡ Ok (b, t) → Takes s (b ∷ []) t × (b ≤ 1)
unfolding side_at
side_takes s b t h e =
    let a = bind_ok (byte_at s) (λ b. cond (ltb 1 b.0) (Err (BadField s.at)) (Ok b)) (b, t) e in
    let g = guard_ok (ltb 1 a.0.0) (BadField s.at) (Ok a.0) (b, t) a.2 in
    subst (λ (z : ℕ × Left). Takes s (z.0 ∷ []) z.1 × (z.0 ≤ 1)) (ok_is a.0 (b, t) g.1) ((byte_takes s a.0.0 a.0.1 h a.1).0, ltb-false _ _ g.0)

goal_node_takes : (d : Counts) (at tag : ℕ) (s : Left) (x : Node) (t : Left) → IsBytes s.rest → goal_node_at d at tag s ≡ Ok (x, t) → Behind d sorts.Proof tag s x t
unfolding goal_node_at
goal_node_takes d at tag s x t h e =
    let from_10 = cond (eqb tag 10) (back_at d s) (Err (BadField at)) in
    let from_9 = cond (eqb tag 9) (done counted s) from_10 in
    let from_8 = cond (eqb tag 8) (done equated s) from_9 in
    let from_7 = cond (eqb tag 7) (done assuming s) from_8 in
    let from_6 = cond (eqb tag 6) (done general s) from_7 in
    let from_5 = cond (eqb tag 5) (as_read witness (term_at d s)) from_6 in
    let from_4 = cond (eqb tag 4) (done right_side s) from_5 in
    let from_3 = cond (eqb tag 3) (done left_side s) from_4 in
    let from_2 = cond (eqb tag 2) (done pair s) from_3 in
    let from_1 = cond (eqb tag 1) (done trivial s) from_2 in
    elim (chosen (eqb tag 0) (as_read converted (term_at d s)) from_1 (Ok (x, t)) e) [
      | inl y ↦ behind_tag d sorts.Proof tag 0 s x t (eqb-true _ _ y.0) (behind_term d sorts.Proof 0 converted (λ x. refl) (λ x i. i) s x t h y.1)
      | inr n ↦
          elim (chosen (eqb tag 1) (done trivial s) from_2 (Ok (x, t)) n.1) [
            | inl y ↦ behind_tag d sorts.Proof tag 1 s x t (eqb-true _ _ y.0) (behind_alone d sorts.Proof 1 trivial s x t h refl tt y.1)
            | inr n ↦
                elim (chosen (eqb tag 2) (done pair s) from_3 (Ok (x, t)) n.1) [
                  | inl y ↦ behind_tag d sorts.Proof tag 2 s x t (eqb-true _ _ y.0) (behind_alone d sorts.Proof 2 pair s x t h refl tt y.1)
                  | inr n ↦
                      elim (chosen (eqb tag 3) (done left_side s) from_4 (Ok (x, t)) n.1) [
                        | inl y ↦ behind_tag d sorts.Proof tag 3 s x t (eqb-true _ _ y.0) (behind_alone d sorts.Proof 3 left_side s x t h refl tt y.1)
                        | inr n ↦
                            elim (chosen (eqb tag 4) (done right_side s) from_5 (Ok (x, t)) n.1) [
                              | inl y ↦ behind_tag d sorts.Proof tag 4 s x t (eqb-true _ _ y.0) (behind_alone d sorts.Proof 4 right_side s x t h refl tt y.1)
                              | inr n ↦
                                  elim (chosen (eqb tag 5) (as_read witness (term_at d s)) from_6 (Ok (x, t)) n.1) [
                                    | inl y ↦ behind_tag d sorts.Proof tag 5 s x t (eqb-true _ _ y.0) (behind_term d sorts.Proof 5 witness (λ x. refl) (λ x i. i) s x t h y.1)
                                    | inr n ↦
                                        elim (chosen (eqb tag 6) (done general s) from_7 (Ok (x, t)) n.1) [
                                          | inl y ↦ behind_tag d sorts.Proof tag 6 s x t (eqb-true _ _ y.0) (behind_alone d sorts.Proof 6 general s x t h refl tt y.1)
                                          | inr n ↦
                                              elim (chosen (eqb tag 7) (done assuming s) from_8 (Ok (x, t)) n.1) [
                                                | inl y ↦ behind_tag d sorts.Proof tag 7 s x t (eqb-true _ _ y.0) (behind_alone d sorts.Proof 7 assuming s x t h refl tt y.1)
                                                | inr n ↦
                                                    elim (chosen (eqb tag 8) (done equated s) from_9 (Ok (x, t)) n.1) [
                                                      | inl y ↦ behind_tag d sorts.Proof tag 8 s x t (eqb-true _ _ y.0) (behind_alone d sorts.Proof 8 equated s x t h refl tt y.1)
                                                      | inr n ↦
                                                          elim (chosen (eqb tag 9) (done counted s) from_10 (Ok (x, t)) n.1) [
                                                            | inl y ↦ behind_tag d sorts.Proof tag 9 s x t (eqb-true _ _ y.0) (behind_alone d sorts.Proof 9 counted s x t h refl tt y.1)
                                                            | inr n ↦
                                                                let y = held (eqb tag 10) (back_at d s) (BadField at) (x, t) n.1 in behind_tag d sorts.Proof tag 10 s x t (eqb-true _ _ y.0) (back_takes d s x t h y.1)
                                                          ]
                                                    ]
                                              ]
                                        ]
                                  ]
                            ]
                      ]
                ]
          ]
    ]

focus_node_takes : (d : Counts) (at tag : ℕ) (s : Left) (x : Node) (t : Left) → IsBytes s.rest → focus_node_at d at tag s ≡ Ok (x, t) → Behind d sorts.Focus tag s x t
unfolding focus_node_at
focus_node_takes d at tag s x t h e =
    let from_20 = cond (eqb tag 20) (done hit s) (Err (BadField at)) in
    let from_19 = cond (eqb tag 19) (done premise s) from_20 in
    let from_18 = cond (eqb tag 18) (as_read side (side_at s)) from_19 in
    let from_17 = cond (eqb tag 17) (as_read focus_witness (term_at d s)) from_18 in
    elim (chosen (eqb tag 16) (as_read focus_converted (term_at d s)) from_17 (Ok (x, t)) e) [
      | inl y ↦ behind_tag d sorts.Focus tag 16 s x t (eqb-true _ _ y.0) (behind_term d sorts.Focus 16 focus_converted (λ x. refl) (λ x i. i) s x t h y.1)
      | inr n ↦
          elim (chosen (eqb tag 17) (as_read focus_witness (term_at d s)) from_18 (Ok (x, t)) n.1) [
            | inl y ↦ behind_tag d sorts.Focus tag 17 s x t (eqb-true _ _ y.0) (behind_term d sorts.Focus 17 focus_witness (λ x. refl) (λ x i. i) s x t h y.1)
            | inr n ↦
                elim (chosen (eqb tag 18) (as_read side (side_at s)) from_19 (Ok (x, t)) n.1) [
                  | inl y ↦ behind_tag d sorts.Focus tag 18 s x t (eqb-true _ _ y.0) (behind_as d sorts.Focus 18 side (λ b. b ∷ []) (λ b. b ≤ 1) (λ b. refl) (λ b k. k) s (side_at s) (λ b u i. side_takes s b u h i) x t y.1)
                  | inr n ↦
                      elim (chosen (eqb tag 19) (done premise s) from_20 (Ok (x, t)) n.1) [
                        | inl y ↦ behind_tag d sorts.Focus tag 19 s x t (eqb-true _ _ y.0) (behind_alone d sorts.Focus 19 premise s x t h refl tt y.1)
                        | inr n ↦
                            let y = held (eqb tag 20) (done hit s) (BadField at) (x, t) n.1 in behind_tag d sorts.Focus tag 20 s x t (eqb-true _ _ y.0) (behind_alone d sorts.Focus 20 hit s x t h refl tt y.1)
                      ]
                ]
          ]
    ]

sorted_takes : (d : Counts) (sort : Sort) (at tag : ℕ) (s : Left) (x : Node) (t : Left) → IsBytes s.rest → sorted_node_at d sort at tag s ≡ Ok (x, t) → Behind d sort tag s x t
sorted_takes d sorts.Proof at tag s x t h e = goal_node_takes d at tag s x t h e
sorted_takes d sorts.Focus at tag s x t h e = focus_node_takes d at tag s x t h e

longer : (x : List ℕ) (b : ℕ) (text : List ℕ) → x ≡ b ∷ text → 0 < length x
longer x b text e = let l : length x ≡ suc (length text) = ap length e in omega (arith, l)

node_takes : (d : Counts) (sort : Sort) (s : Left) (x : Node) (t : Left) → IsBytes s.rest → node_at d sort s ≡ Ok (x, t) → Takes s (spelled_node x) t × (0 < length (spelled_node x)) × IsNode d sort x
unfolding node_at
node_takes d sort s x t h e =
    let a = bind_ok (byte_at s) (λ b. sorted_node_at d sort s.at b.0 b.1) (x, t) e in
    let p = (byte_takes s a.0.0 a.0.1 h a.1).0 in
    let q = sorted_takes d sort s.at a.0.0 a.0.1 x t p.bytes a.2 in
    (takes_as s (a.0.0 ∷ q.0) (spelled_node x) t (sym q.2) (takes_then s (a.0.0 ∷ []) a.0.1 q.0 t p q.1), longer (spelled_node x) a.0.0 q.0 q.2, q.3)

proof_takes : (d : Counts) (s : Left) (ns : List Node) (t : Left) → IsBytes s.rest → proof_at d s ≡ Ok (ns, t) → Takes s (flat_map spelled_node ns) t × AreWhole nodes_below (IsNode d) (sorts.Proof ∷ []) ns
unfolding proof_at
proof_takes d s ns t h e =
    let q = nested_take (node_at d) nodes_below spelled_node (IsNode d) (λ sort u x v i j. node_takes d sort u x v i j) [] (suc (length s.rest)) (sorts.Proof ∷ []) s ns t h (omega arith) e in
    subst (λ us. Takes s (flat_map spelled_node us) t × AreWhole nodes_below (IsNode d) (sorts.Proof ∷ []) us) (sym q.1) (q.2, q.3)

-- ---- files

abbrev pub made : (types : List Ty) → (values : List Term) → List Node → Certificate
made ts vs ns = record { instance = record { types = ts; values = vs }; nodes = ns }

certificate_takes : (d : Counts) (s : Left) (c : Certificate) (t : Left) → IsBytes s.rest → certificate_at d s ≡ Ok (c, t) → Takes s (spelled_certificate c) t × IsCertificate d c
unfolding certificate_at spelled_certificate
certificate_takes d s c t h e =
    let k1 = bind_ok (four_at s) (λ m. types_at d m.0 m.1 >>= λ ts. four_at ts.1 >>= λ n. terms_at d n.0 n.1 >>= λ vs. proof_at d vs.1 >>= λ ns. Ok (made ts.0 vs.0 ns.0, ns.1)) (c, t) e in
    let k2 = bind_ok (types_at d k1.0.0 k1.0.1) (λ ts. four_at ts.1 >>= λ n. terms_at d n.0 n.1 >>= λ vs. proof_at d vs.1 >>= λ ns. Ok (made ts.0 vs.0 ns.0, ns.1)) (c, t) k1.2 in
    let k3 = bind_ok (four_at k2.0.1) (λ n. terms_at d n.0 n.1 >>= λ vs. proof_at d vs.1 >>= λ ns. Ok (made k2.0.0 vs.0 ns.0, ns.1)) (c, t) k2.2 in
    let k4 = bind_ok (terms_at d k3.0.0 k3.0.1) (λ vs. proof_at d vs.1 >>= λ ns. Ok (made k2.0.0 vs.0 ns.0, ns.1)) (c, t) k3.2 in
    let k5 = bind_ok (proof_at d k4.0.1) (λ ns. Ok (made k2.0.0 k4.0.0 ns.0, ns.1)) (c, t) k4.2 in
    let p1 = four_takes s k1.0.0 k1.0.1 h k1.1 in
    let p2 = types_take d k1.0.0 k1.0.1 k2.0.0 k2.0.1 p1.0.bytes k2.1 in
    let p3 = four_takes k2.0.1 k3.0.0 k3.0.1 p2.0.bytes k3.1 in
    let p4 = terms_take d k3.0.0 k3.0.1 k4.0.0 k4.0.1 p3.0.bytes k4.1 in
    let p5 = proof_takes d k4.0.1 k5.0.0 k5.0.1 p4.0.bytes k5.1 in
    let T = flat_map spelled_type k2.0.0 in
    let V = flat_map spelled_term k4.0.0 in
    let N = flat_map spelled_node k5.0.0 in
    let n1 = takes_as s (spelled_four k1.0.0) (spelled_four (length k2.0.0)) k1.0.1 (ap (λ m. spelled_four m) (sym p2.1)) p1.0 in
    let n3 = takes_as k2.0.1 (spelled_four k3.0.0) (spelled_four (length k4.0.0)) k3.0.1 (ap (λ m. spelled_four m) (sym p4.1)) p3.0 in
    let q4 = takes_then k3.0.1 V k4.0.1 N k5.0.1 p4.0 p5.0 in
    let q3 = takes_then k2.0.1 (spelled_four (length k4.0.0)) k3.0.1 (V ++ N) k5.0.1 n3 q4 in
    let q2 = takes_then k1.0.1 T k2.0.1 (spelled_four (length k4.0.0) ++ (V ++ N)) k5.0.1 p2.0 q3 in
    let q1 = takes_then s (spelled_four (length k2.0.0)) k1.0.1 (T ++ (spelled_four (length k4.0.0) ++ (V ++ N))) k5.0.1 n1 q2 in
    subst (λ (z : Certificate × Left). Takes s (spelled_certificate z.0) z.1 × IsCertificate d z.0) (ok_is (made k2.0.0 k4.0.0 k5.0.0, k5.0.1) (c, t) k5.2)
    (q1, record { few_types = omega (arith, p2.1, p1.1); types_fit = p2.2; few_values = omega (arith, p4.1, p3.1); values_fit = p4.2; nodes_fit = p5.1 })

version_takes : (s t : Left) → IsBytes s.rest → version_at s ≡ Ok t → Takes s (spelled_two 1) t
unfolding version_at
version_takes s t h e =
    let a = bind_ok (two_at s) (λ v. cond (eqb v.0 1) (Ok v.1) (Err (BadVersion v.0))) t e in
    let g = held (eqb a.0.0 1) (Ok a.0.1) (BadVersion a.0.0) t a.2 in
    let p = (two_takes s a.0.0 a.0.1 h a.1).0 in
    subst (λ u. Takes s (spelled_two 1) u) (ok_is a.0.1 t g.1) (takes_as s (spelled_two a.0.0) (spelled_two 1) a.0.1 (ap (λ m. spelled_two m) (eqb-true _ _ g.0)) p)

pub certificates_found : (d : Counts) (bs : List ℕ) (cs : List Certificate) → IsBytes bs → certificates_of d bs ≡ Ok cs → (length bs ≤ 16777216) × AreCertificates d cs × (bs ≡ spelled_certificates cs)
unfolding certificates_of spelled_certificates
certificates_found d bs cs h e =
    let M = 76 ∷ 80 ∷ 67 ∷ 84 ∷ [] in
    let k0 = bind_ok (file_of bs) (λ f. magic_at M f >>= λ m. version_at m >>= λ v. four_at v >>= λ n. each_at (λ before. certificate_at d) [] n.0 n.1 >>= λ xs. all_read xs.1 >>= λ over. Ok xs.0) cs e in
    let k1 = bind_ok (magic_at M k0.0) (λ m. version_at m >>= λ v. four_at v >>= λ n. each_at (λ before. certificate_at d) [] n.0 n.1 >>= λ xs. all_read xs.1 >>= λ over. Ok xs.0) cs k0.2 in
    let k2 = bind_ok (version_at k1.0) (λ v. four_at v >>= λ n. each_at (λ before. certificate_at d) [] n.0 n.1 >>= λ xs. all_read xs.1 >>= λ over. Ok xs.0) cs k1.2 in
    let k3 = bind_ok (four_at k2.0) (λ n. each_at (λ before. certificate_at d) [] n.0 n.1 >>= λ xs. all_read xs.1 >>= λ over. Ok xs.0) cs k2.2 in
    let k4 = bind_ok (each_at (λ before. certificate_at d) [] k3.0.0 k3.0.1) (λ xs. all_read xs.1 >>= λ over. Ok xs.0) cs k3.2 in
    let k5 = bind_ok (all_read k4.0.1) (λ over. Ok k4.0.0) cs k4.2 in
    let f = file_is bs k0.0 k0.1 in
    let whole : k0.0.rest ≡ bs = ap (λ (s : Left). s.rest) f.0 in
    let p1 = magic_takes M k0.0 k1.0 (subst IsBytes (sym whole) h) k1.1 in
    let p2 = version_takes k1.0 k2.0 p1.bytes k2.1 in
    let p3 = four_takes k2.0 k3.0.0 k3.0.1 p2.bytes k3.1 in
    let p4 = each_take (λ before. certificate_at d) spelled_certificate (IsCertificate d) (λ before u x v i j. certificate_takes d u x v i j) [] k3.0.0 k3.0.1 k4.0.0 k4.0.1 p3.0.bytes k4.1 in
    let xs = p4.0 in
    let C = flat_map spelled_certificate xs in
    let n3 = takes_as k2.0 (spelled_four k3.0.0) (spelled_four (length xs)) k3.0.1 (ap (λ m. spelled_four m) (sym p4.3)) p3.0 in
    let q3 = takes_then k2.0 (spelled_four (length xs)) k3.0.1 C k4.0.1 n3 p4.2 in
    let q2 = takes_then k1.0 (spelled_two 1) k2.0 (spelled_four (length xs) ++ C) k4.0.1 p2 q3 in
    let q1 = takes_then k0.0 M k1.0 (spelled_two 1 ++ (spelled_four (length xs) ++ C)) k4.0.1 p1 q2 in
    let text = M ++ (spelled_two 1 ++ (spelled_four (length xs) ++ C)) in
    let all : bs ≡ text = sym whole ∙ q1.parts ∙ ap (λ r. text ++ r) (all_is_read k4.0.1 k5.1) ∙ append-nil text in
    let same : xs ≡ cs = sym p4.1 ∙ ok_is k4.0.0 cs k5.2 in
    subst (λ us. (length bs ≤ 16777216) × AreCertificates d us × (bs ≡ spelled_certificates us)) same (f.1, (omega (arith, p4.3, p3.1), p4.4), all)
