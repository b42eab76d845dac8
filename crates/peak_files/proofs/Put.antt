-- Lines put into lent bytes: none, and one peak's. Assumes nothing.
use Prim.Native.Nat.{ℕ, ◌≤◌, ◌<◌}
use mathlib.Core.Path.{◌≡◌, refl, sym, ap, ◌∙◌}
use mathlib.Core.List.{List, [], ◌∷◌}
use native.Mathlib.Omega.{arith}
use lib.Dec.{ltb}
use lib.ListN.{length}
use Rattle.truth.proofs.Cases.{by_test}
use Rattle.text.proofs.Laws.{laid_none, written_fits}
use Rattle.peak_groups.specs.declared.Peak.{Peak}
use Rattle.peak_lines.specs.Lines.{peak_lines, peaks_text, lines_place, lines_left}
use Rattle.peak_stream.specs.declared.Handing.{Handing}
use Rattle.peak_stream.specs.Hands.{last_of, at_end}
use Rattle.desk_line.specs.Said.{Said, Puts, read_digit, longest_said}
use Rattle.peak_files.specs.Said.{peaks_read}
use Rattle.peak_files.specs.Passing.{peak_in}
use Rattle.peak_files.proofs.Laws.{lines_put}

pub puts_none : (out : List ℕ) (s : Said) → s.line ≡ [] → Puts s out (record { put = 0; end = s.end }) out
puts_none out s e =
    record { bytes = sym (ap length e); how = refl; left = sym (ap (Rattle.text.specs.Write.written out 0) e ∙ written_fits out 0 [] (omega arith) ∙ laid_none out 0) }

pub puts_no_peak : (file : ℕ) (out : List ℕ) → Puts (peaks_read file []) out (record { put = 0; end = read_digit }) out
unfolding peaks_text
puts_no_peak file out = puts_none out (peaks_read file []) refl

pub puts_one : (file : ℕ) (p : Peak) (out : List ℕ) {n : ℕ} {later : List ℕ} → file < 18446744073709551616 → longest_said ≤ length out
    → n ≡ lines_place file (p.size ∷ []) (p.time ∷ []) out 0 → later ≡ lines_left file (p.size ∷ []) (p.time ∷ []) out 0
    → Puts (peaks_read file (p ∷ [])) out (record { put = n; end = read_digit }) later
unfolding peaks_text peak_lines
puts_one file p out small room e l =
    let w = lines_put file (p.size ∷ []) (p.time ∷ []) out refl (omega arith) small e l in
    record { bytes = w.0; how = refl; left = w.1 ∙ sym (written_fits out 0 (peak_lines file (p.size ∷ []) (p.time ∷ [])) (omega (arith, w.2))) }

pub last-is : (h : Handing) → peak_in (last_of h) ≡ at_end h
unfolding last_of at_end
last-is h = by_test (ltb 0 h.envelope.chains.opened) (λ e. rw e) (λ e. rw e)
