-- What is done with what two files come to, where the items are in range: the tests in their order, and then with a
-- record that is sound and has a sample for each line (`end_then`). Assumes nothing.
use Prim.Native.Nat.{ℕ, ◌+◌, ◌≤◌, ◌<◌}
use mathlib.Core.Path.{◌≡◌, refl, sym, ap, ◌∙◌}
use mathlib.Core.Bool.{Bool, true, false}
use mathlib.Core.List.{List}
use native.Mathlib.Omega.{arith}
use lib.Dec.{eqb}
use lib.ListN.{length}
use borrow.Author.Tests.{eq-eqb, eqb-true, lt-ltb, le-ltb, le-leb, ltb-false}
use Rattle.truth.proofs.Cases.{by_test, by_order}
use Rattle.truth.proofs.Laws.{true≢false}
use Rattle.refusal.specs.declared.Refusal.{Refusal}
use Rattle.sample_channels.specs.Channels.{has_bad}
use Rattle.sample_items.specs.declared.Items.{Items}
use Rattle.sample_items.specs.Limits.{item_outside, most_samples}
use Rattle.sample_range.specs.Range.{first_bad}
use Rattle.sample_range.proofs.Bad.{bad_within}
use Rattle.record_state.specs.declared.Record.{Record}
use Rattle.record_state.specs.State.{state_of, sound}
use Rattle.record_step.proofs.Whole.{state}
use Rattle.comma_line.specs.Text.{samples_of}
use Rattle.comma_count.proofs.Whole.{start, start_sound}
use Rattle.comma_pair.specs.Line.{any_wrong, wrong_roll, bad_roll, both_channels, end_of_both, pair_then}
use Rattle.comma_pair.proofs.Front.{samples_many}
use Rattle.comma_pair.proofs.Joining.{Good, many, still_sound}
use Rattle.comma_pair.specs.declared.PairFault.TheVariants.{Plain, AtLine}
use Rattle.comma_pair.specs.declared.PairFault.{PairFault}
use Rattle.std.specs.Prelude.{Result, Ok, Err}

-- one thing to do with a refusal, another with a record
abbrev pub on_end : {X : Type 0} → (Refusal → X) → (ℕ → Refusal → ℕ → X) → (Record → X) → Result Record PairFault → X
on_end refuse refuseOf go (Ok r) = go r
on_end refuse refuseOf go (Err (Plain q)) = refuse q
on_end refuse refuseOf go (Err (AtLine line q channel)) = refuseOf line q channel

module _ (i : Items) (ok : item_outside i ≡ 0) (ls ms : List (List ℕ)) where
  abbrev whole : Record
  whole = state_of i (both_channels ls ms)

  -- no sample is out of range
  all_good : length ls ≡ length ms → bad_roll (samples_of ls) (samples_of ms) ≡ false → has_bad (samples_of ms) ≡ false → Good (samples_of ls) (samples_of ms)
  all_good same br ba =
      let gy = ltb-false (first_bad (samples_of ms)) (length (samples_of ms)) ba in
      let equal : length (samples_of ls) ≡ length (samples_of ms) = samples_many ls ∙ same ∙ sym (samples_many ms) in
      record {
        equal = equal;
        roll =
            by_order (first_bad (samples_of ls)) (length (samples_of ls))
            (λ bx. absurd (true≢false (rw (lt-ltb (first_bad (samples_of ls)) (length (samples_of ls)) bx, le-leb (first_bad (samples_of ls)) (first_bad (samples_of ms)) (omega (arith, equal))) at br)))
            (λ gx. omega (arith, bad_within (samples_of ls)));
        acceleration = omega (arith, gy, bad_within (samples_of ms));
      }

  module _ (g : Good (samples_of ls) (samples_of ms)) (h : length ls ≤ most_samples i.step i.ramp) where
    room : (start i).n + length (samples_of ls) ≤ most_samples (start i).items.step (start i).items.ramp
    unfolding state_of
    room = omega (arith, h, samples_many ls)

    whole_sound : sound whole ≡ true
    whole_sound = ap sound (sym (state i (both_channels ls ms))) ∙ still_sound (start i) (samples_of ls) (samples_of ms) g (start_sound i ok) room

    whole_many : whole.n ≡ length ls
    unfolding state_of
    whole_many = many (start i) (samples_of ls) (samples_of ms) g (start_sound i ok) ∙ samples_many ls

  pub end_then : {X : Type 0} (refuse : Refusal → X) (refuseOf : ℕ → Refusal → ℕ → X) (go : Record → X) (proper : X)
      → (sound whole ≡ true → whole.n ≡ length ls → go whole ≡ proper)
      → on_end refuse refuseOf go (end_of_both i ls ms) ≡ pair_then i refuse refuseOf ls ms proper
  unfolding end_of_both
  end_then refuse refuseOf go proper f =
      let most = most_samples i.step i.ramp in
      let e = eq-eqb (item_outside i) 0 ok in
      by_test (wrong_roll i.step ls ms)
      (λ wr. rw (e, wr))
      (λ wr.
      by_test (any_wrong i.step ms)
      (λ wa. rw (e, wr, wa))
      (λ wa.
      by_test (eqb (length ls) (length ms))
      (λ eq.
      by_test (bad_roll (samples_of ls) (samples_of ms))
      (λ br. rw (e, wr, wa, eq, br))
      (λ br.
      by_test (has_bad (samples_of ms))
      (λ ba. rw (e, wr, wa, eq, br, ba))
      (λ ba.
      by_order most (length ls)
      (λ h. rw (e, wr, wa, eq, br, ba, lt-ltb most (length ls) h))
      (λ h.
      let g = all_good (eqb-true (length ls) (length ms) eq) br ba in
      rw (e, wr, wa, eq, br, ba, le-ltb most (length ls) h) (f (whole_sound g h) (whole_many g h))))))
      (λ eq. rw (e, wr, wa, eq))))
