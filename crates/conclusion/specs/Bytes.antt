-- Types written after the walk: the bytes of each come after those before it, or are counted as over.
-- After this file a reader knows which bytes `spell_of` writes, and that it changes nothing else.
use Rattle.std.specs.Prelude.{ℕ, ◌+◌, ◌≤◌, ◌≡◌, refl, true, false, List, ◌++◌, eqb, length, take}
use Rattle.std.proofs.Common.{◌∙◌, ap₂, arith, length-append, eq-eqb}
use Rattle.std.proofs.Math.Path.{ap}
use Rattle.std.proofs.Math.Decide.{dec_le}
use Rattle.meter.specs.Meter.{Out, done, halt, full}
use Rattle.types.specs.Ty.{Ty}
use Rattle.unification.specs.Arena.{read}
use Rattle.unification.specs.Put.{Page, Sheet, put, lay, lay-length, lay-take, put-done, put_full}
use Rattle.unification.specs.Put as P
use Rattle.machine.specs.State.{State}
use Rattle.forms.specs.Forms.{then}
use Rattle.machine.specs.Machine.{Mach, bytes_of, over_of}
use Rattle.finisher.specs.Finisher.{most, laid_by, spell_of}
use Rattle.simulation.specs.Relation.{Wrote}
use Rattle.machine.specs.Still.{test_yes, test_no}
use Rattle.simulation.specs.Output.{spoken, Spoke}

-- the bytes of T are written where it is what is read
module _ (room : ℕ) (m : Mach) (g : m.st.stop ≡ 0) (t : ℕ) (T : Ty) (left : ℕ) (q : read m.arena m.st.nodes t most ≡ done T left) where
  spell_as : (o : Out Page Sheet) → m.st.over ≡ false → put m.arena m.st.nodes (m.out, m.st.bytes, t) most ≡ o → spell_of t m ≡ laid_by o m
  unfolding spell_of
  spell_as o e h = test_yes (eqb m.st.stop 0) _ _ (eq-eqb m.st.stop 0 g) ∙ test_no m.st.over _ _ e ∙ ap (λ (x : Out Page Sheet). laid_by x m) h

  spell-over : m.st.over ≡ true → spell_of t m ≡ m
  unfolding spell_of
  spell-over e = test_yes (eqb m.st.stop 0) _ _ (eq-eqb m.st.stop 0 g) ∙ test_yes m.st.over _ _ e

  laid_done : (n l : ℕ) (p : Page) → laid_by (done (n, p) l) m ≡ spoken n m.st.over p m
  unfolding laid_by bytes_of then
  laid_done n l p = ap (λ (v : State). record { st = v; arena = m.arena; book = m.book; out = p }) (test_yes (eqb m.st.stop 0) _ _ (eq-eqb m.st.stop 0 g))

  laid_full : (p : Page) → laid_by (halt full p) m ≡ spoken m.st.bytes true p m
  unfolding laid_by over_of then
  laid_full p = ap (λ (v : State). record { st = v; arena = m.arena; book = m.book; out = p }) (test_yes (eqb m.st.stop 0) _ _ (eq-eqb m.st.stop 0 g))

  module _ (B : List ℕ) (w : Wrote room B m.st.bytes m.st.over m.out) where
    spell-by : Dec (length B ≤ room) → Dec (length B + length (P.bytes T) ≤ room) → Spoke room (B ++ P.bytes T) m (spell_of t m)
    spell-by (yes l) (yes k) =
        let z = w.inside l in
        let lo = w.long in
        let e : m.st.bytes ≡ length B = z.1 in
        let n = length-append B (P.bytes T) in
        let d = put-done m.arena m.st.nodes t most T left q m.out m.st.bytes (omega arith) in
        record {
          bytes = m.st.bytes + length (P.bytes T);
          over = m.st.over;
          out = lay m.out m.st.bytes (P.bytes T);
          is = spell_as _ z.0 d ∙ laid_done (m.st.bytes + length (P.bytes T)) left (lay m.out m.st.bytes (P.bytes T));
          wrote = record {
            long = lay-length m.out m.st.bytes (P.bytes T) ∙ lo;
            inside = λ _. (
              z.0,
              omega arith,
              ap₂ (λ (i j : ℕ). take i (lay m.out j (P.bytes T))) n e
                  ∙ lay-take m.out (length B) (P.bytes T) (omega arith) ∙ ap (λ (l : List ℕ). l ++ P.bytes T) z.2,
            );
            past = λ h. absurd (omega arith);
          };
        }
    spell-by (yes l) (no k) =
        let z = w.inside l in
        let lo = w.long in
        let e : m.st.bytes ≡ length B = z.1 in
        let n = length-append B (P.bytes T) in
        let d = put_full m.arena m.st.nodes t most T left q m.out m.st.bytes (omega arith) in
        record {
          bytes = m.st.bytes;
          over = true;
          out = d.0;
          is = spell_as _ z.0 d.1 ∙ laid_full d.0;
          wrote = record { long = d.2 ∙ lo; inside = λ h. absurd (omega arith); past = λ h. refl };
        }
    spell-by (no l) k =
        let n = length-append B (P.bytes T) in
        let o = w.past (omega arith) in
        record {
          bytes = m.st.bytes;
          over = m.st.over;
          out = m.out;
          is = spell-over o;
          wrote = record { long = w.long; inside = λ h. absurd (omega arith); past = λ h. o };
        }

    pub spell_spoke : Spoke room (B ++ P.bytes T) m (spell_of t m)
    spell_spoke = spell-by (dec_le (length B) room) (dec_le (length B + length (P.bytes T)) room)
