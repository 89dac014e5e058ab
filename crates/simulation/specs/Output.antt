-- Problems are written: each byte joins those before it, or is counted as over where the output ends.
-- After this file `list_of` writes a problem as the answer's format spells it, and changes nothing else.
use Rattle.std.specs.Prelude.{ℕ, suc, ◌+◌, ◌*◌, ◌/◌, ◌%◌, ◌≤◌, ◌<◌, ◌≡◌, Bool, true, false, eqb, ltb, length, take}
use Rattle.std.proofs.Math.Path.{refl, ap, subst}
use Rattle.std.proofs.Common.{sym, ◌∙◌, ap₂, length-append, length-set, take-suc-set, lt-ltb, le-ltb, eq-eqb}
use mathlib.Core.List.{List, [], ◌∷◌, ◌++◌}
use native.Mathlib.Omega.{arith}
use Rattle.std.proofs.Math.Decide.{dec_lt, dec_le}
use Rattle.std.proofs.Math.ListN.{set}
use Rattle.inference.specs.Answer.{Problem, two, four, spell_problem, spell_problems, nameless}
use Rattle.inference.specs.Finish.{walk_problems}
use Rattle.machine.specs.State.{State}
use Rattle.forms.specs.Forms.{then}
use Rattle.machine.specs.Machine.{Mach, with_st, bytes_of, over_of, emit_of, two_of, four_of, list_of}
use Rattle.simulation.specs.Relation.{Wrote}
use Rattle.machine.specs.Still.{test_yes, test_no}
use Rattle.simulation.specs.Steps.{nil_right}

-- the machine with another output
abbrev pub spoken : ℕ → Bool → List ℕ → Mach → Mach
spoken n o out m = record {
  st = record { at = m.st.at; from = m.st.from; last = m.st.last; nodes = m.st.nodes; budget = m.st.budget; slots = m.st.slots; met = m.st.met; bound = m.st.bound; bytes = n; over = o; stop = m.st.stop };
  arena = m.arena;
  book = m.book;
  out = out;
}

-- from m to m' the bytes ps were written, after those in P
pub record Spoke (room : ℕ) (P : List ℕ) (m m' : Mach) : Type 0 where
  pub bytes : ℕ
  pub over : Bool
  pub out : List ℕ
  pub is : m' ≡ spoken bytes over out m
  pub wrote : Wrote room P bytes over out

abbrev pub nameless_problem : ℕ → ℕ → Problem
nameless_problem q p = record { kind = q; place = p; name = nameless }

pub assoc : (P Q R : List ℕ) → (P ++ Q) ++ R ≡ P ++ (Q ++ R)
assoc [] Q R = refl
assoc (x ∷ P) Q R = ap (λ (l : List ℕ). x ∷ l) (assoc P Q R)

module _ (room : ℕ) where
  module _ (b : ℕ) (m : Mach) (P : List ℕ) (g : m.st.stop ≡ 0) (w : Wrote room P m.st.bytes m.st.over m.out) where
    emit_over : m.st.over ≡ true → emit_of b m ≡ m
    unfolding emit_of
    emit_over e = test_yes (eqb m.st.stop 0) _ _ (eq-eqb m.st.stop 0 g) ∙ test_yes m.st.over _ _ e

    emit_in : m.st.over ≡ false → m.st.bytes < length m.out → emit_of b m ≡ spoken (m.st.bytes + 1) m.st.over (set m.out m.st.bytes b) m
    unfolding emit_of bytes_of then
    emit_in e l = test_yes (eqb m.st.stop 0) _ _ (eq-eqb m.st.stop 0 g) ∙ test_no m.st.over _ _ e ∙ test_yes (ltb m.st.bytes (length m.out)) _ _ (lt-ltb m.st.bytes (length m.out) l)
        ∙ ap (λ (v : State). record { st = v; arena = m.arena; book = m.book; out = set m.out m.st.bytes b }) (test_yes (eqb m.st.stop 0) _ _ (eq-eqb m.st.stop 0 g))

    emit_out : m.st.over ≡ false → length m.out ≤ m.st.bytes → emit_of b m ≡ spoken m.st.bytes true m.out m
    unfolding emit_of over_of then
    emit_out e l = test_yes (eqb m.st.stop 0) _ _ (eq-eqb m.st.stop 0 g) ∙ test_no m.st.over _ _ e ∙ test_no (ltb m.st.bytes (length m.out)) _ _ (le-ltb m.st.bytes (length m.out) l)
        ∙ ap (λ (v : State). with_st v m) (test_yes (eqb m.st.stop 0) _ _ (eq-eqb m.st.stop 0 g))

    emit_by : Dec (length P < room) → Dec (length P ≤ room) → Spoke room (P ++ (b ∷ [])) m (emit_of b m)
    emit_by (yes l) d =
        let z = w.inside (omega arith) in
        let n = length-append P (b ∷ []) in
        let lo = w.long in
        let e = z.1 in
        let j : length P + 1 ≡ suc (length P) = omega arith in
        record {
          bytes = m.st.bytes + 1;
          over = m.st.over;
          out = set m.out m.st.bytes b;
          is = emit_in z.0 (omega arith);
          wrote = record {
            long = length-set m.out m.st.bytes b ∙ w.long;
            inside = λ q. (
              z.0,
              omega arith,
              ap₂ (λ (i j : ℕ). take i (set m.out j b)) n e
                  ∙ ap (λ (i : ℕ). take i (set m.out (length P) b)) j
                  ∙ take-suc-set m.out (length P) b (omega arith) ∙ ap (λ (l : List ℕ). l ++ (b ∷ [])) z.2,
            );
            past = λ q. absurd (omega arith);
          };
        }
    emit_by (no h) (yes l) =
        let z = w.inside l in
        let n = length-append P (b ∷ []) in
        let lo = w.long in
        let e = z.1 in
        record {
          bytes = m.st.bytes;
          over = true;
          out = m.out;
          is = emit_out z.0 (omega arith);
          wrote = record { long = w.long; inside = λ q. absurd (omega arith); past = λ q. refl };
        }
    emit_by (no h) (no k) =
        let n = length-append P (b ∷ []) in
        let o = w.past (omega arith) in
        record {
          bytes = m.st.bytes;
          over = m.st.over;
          out = m.out;
          is = emit_over o;
          wrote = record { long = w.long; inside = λ q. absurd (omega arith); past = λ q. o };
        }

    pub emit_spoke : Spoke room (P ++ (b ∷ [])) m (emit_of b m)
    emit_spoke = emit_by (dec_lt (length P) room) (dec_le (length P) room)

  -- one byte more, after others
  pub spoke_emit : (b : ℕ) (m m1 : Mach) (P : List ℕ) → m.st.stop ≡ 0 → Spoke room P m m1 → Spoke room (P ++ (b ∷ [])) m (emit_of b m1)
  spoke_emit b m m1 P g s =
      let z = emit_spoke b (spoken s.bytes s.over s.out m) P g s.wrote in
      record { bytes = z.bytes; over = z.over; out = z.out; is = ap (emit_of b) s.is ∙ z.is; wrote = z.wrote }

  pub spoke_start : (m : Mach) (P : List ℕ) → Wrote room P m.st.bytes m.st.over m.out → Spoke room P m m
  spoke_start m P w = record { bytes = m.st.bytes; over = m.st.over; out = m.out; is = refl; wrote = w }

  -- ---- numbers
  pub spoke_two : (v : ℕ) (m m1 : Mach) (P : List ℕ) → m.st.stop ≡ 0 → Spoke room P m m1 → Spoke room (P ++ two v) m (two_of v m1)
  unfolding two_of then two
  spoke_two v m m1 P g s = subst (λ (l : List ℕ). Spoke room l m (emit_of (v / 256 % 256) (emit_of (v % 256) m1))) (assoc P (v % 256 ∷ []) (v / 256 % 256 ∷ []))
      (spoke_emit (v / 256 % 256) m (emit_of (v % 256) m1) (P ++ (v % 256 ∷ [])) g (spoke_emit (v % 256) m m1 P g s))

  low : (x y : ℕ) → y < 256 → y % 256 ≡ (256 * x + y) % 256
  low x y l = omega arith

  high : (v : ℕ) → v / 65536 / 256 ≡ v / 16777216
  high v = omega arith

  four_twos : (v : ℕ) → two (v % 65536) ++ two (v / 65536) ≡ four v
  unfolding two four
  four_twos v =
      let a : v % 65536 % 256 ≡ v % 256 = omega arith in
      let x : v / 256 ≡ 256 * (v / 65536) + v % 65536 / 256 = omega arith in
      let y : v % 65536 / 256 < 256 = omega arith in
      let b : v % 65536 / 256 % 256 ≡ v / 256 % 256 = low (v / 65536) (v % 65536 / 256) y ∙ ap (λ (i : ℕ). i % 256) (sym x) in
      let c : v / 65536 / 256 % 256 ≡ v / 16777216 % 256 = ap (λ (i : ℕ). i % 256) (high v) in
      rw (a, b, c) refl

  pub spoke_four : (v : ℕ) (m m1 : Mach) (P : List ℕ) → m.st.stop ≡ 0 → Spoke room P m m1 → Spoke room (P ++ four v) m (four_of v m1)
  unfolding four_of then
  spoke_four v m m1 P g s = subst (λ (l : List ℕ). Spoke room l m (two_of (v / 65536) (two_of (v % 65536) m1))) (assoc P (two (v % 65536)) (two (v / 65536)) ∙ ap (λ (l : List ℕ). P ++ l) (four_twos v))
      (spoke_two (v / 65536) m (two_of (v % 65536) m1) (P ++ two (v % 65536)) g (spoke_two (v % 65536) m m1 P g s))

  -- ---- a problem
  pub list_spoke : (q : Problem) (m : Mach) (P : List ℕ) → m.st.stop ≡ 0 → Wrote room P m.st.bytes m.st.over m.out → Spoke room (P ++ spell_problem q) m (list_of q.kind q.place q.name m)
  unfolding list_of then spell_problem
  list_spoke q m P g w =
      let a = spoke_emit 0x60 m m P g (spoke_start m P w) in
      let b = spoke_emit q.kind m (emit_of 0x60 m) (P ++ (0x60 ∷ [])) g a in
      let c = spoke_four q.place m (emit_of q.kind (emit_of 0x60 m)) ((P ++ (0x60 ∷ [])) ++ (q.kind ∷ [])) g b in
      let d = spoke_two q.name m (four_of q.place (emit_of q.kind (emit_of 0x60 m))) (((P ++ (0x60 ∷ [])) ++ (q.kind ∷ [])) ++ four q.place) g c in
      let e : (((P ++ (0x60 ∷ [])) ++ (q.kind ∷ [])) ++ four q.place) ++ two q.name ≡ P ++ (0x60 ∷ q.kind ∷ (four q.place ++ two q.name)) =
      assoc ((P ++ (0x60 ∷ [])) ++ (q.kind ∷ [])) (four q.place) (two q.name) ∙ assoc (P ++ (0x60 ∷ [])) (q.kind ∷ []) (four q.place ++ two q.name) ∙ assoc P (0x60 ∷ []) (q.kind ∷ (four q.place ++ two q.name)) in
      subst (λ (l : List ℕ). Spoke room l m (two_of q.name (four_of q.place (emit_of q.kind (emit_of 0x60 m))))) e d

-- the problems of a bench with one more
pub problems-more : (ps : List (ℕ × ℕ)) (q p : ℕ) → spell_problems (walk_problems (ps ++ ((q, p) ∷ []))) ≡ spell_problems (walk_problems ps) ++ spell_problem (nameless_problem q p)
unfolding spell_problems walk_problems
problems-more [] q p = nil_right (spell_problem (nameless_problem q p))
problems-more (z ∷ ps) q p =
    ap (λ (l : List ℕ). spell_problem (nameless_problem z.0 z.1) ++ l) (problems-more ps q p)
    ∙ sym (assoc (spell_problem (nameless_problem z.0 z.1)) (spell_problems (walk_problems ps)) (spell_problem (nameless_problem q p)))
