-- What a line that is taken says, and which line a refusal names. A record's line is its number, flag and exposure and
-- nothing else, and it enters the campaign as `telling` says; so does line 1 open it. Assumes nothing.
use Prim.Native.Nat.{ℕ, ◌+◌, ◌≤◌, ◌<◌}
use mathlib.Core.Path.{◌≡◌, refl, subst, sym, ap}
use mathlib.Core.List.{List}
use native.Mathlib.Omega.{arith}
use lib.Dec.{eqb}
use Rattle.refusal.specs.declared.Refusal.{Refusal}
use Rattle.campaign_state.specs.declared.Campaign.{Campaign}
use Rattle.campaign_state.specs.Answers.{opened}
use Rattle.sheet_line.specs.declared.Sheet.{Sheet}
use Rattle.sheet_line.specs.declared.Sheet.TheVariants.{Open}
use Rattle.sheet_line.specs.Texts.{entry_text, head_text}
use Rattle.sheet_line.specs.Line.{line_after, malformed, outcome, record_line, standard_line, telling}
use Rattle.sheet_line.proofs.Forms.{Reads, Told, ToldStandard, good, ill, record_reads, standard_reads}
use Rattle.std.specs.Prelude.{Result, Ok, Err}
use Rattle.truth.proofs.Answers.{err_not_ok, ok_not_err, same_err, same_ok}

-- a step that is taken leads to a sheet of which P holds; one that is refused names the line
pub data Says (P : Sheet → Type 0) (line : ℕ) : Result Sheet (ℕ × ℕ × Refusal) → Type 0 where
  goes : {s : Sheet} → P s → Says P line (Ok s)
  stops : {column : ℕ} {r : Refusal} → column < 1000 → Says P line (Err (line, column, r))

module _ {P : Sheet → Type 0} {line : ℕ} where
  says_outcome : (a : Result Campaign Refusal) → ((d : Campaign) → a ≡ Ok d → P (Open d)) → Says P line (outcome line a)
  says_outcome (Ok d) f = goes (f d refl)
  says_outcome (Err r) f = stops {column = 0} (omega arith)

-- from a step's answer back to what it says
pub says_next : {P : Sheet → Type 0} {line : ℕ} {step : (Result Sheet (ℕ × ℕ × Refusal))} {t : Sheet} → Says P line step → step ≡ Ok t → P t
says_next {P} (goes p) e = subst P (same_ok e) p
says_next (stops k) e = absurd (err_not_ok e)

same_line : {n l k m : ℕ} {q r : Refusal} → k < 1000 → ◌≡◌ {A = ℕ × ℕ × Refusal} (n, k, q) (l, m, r) → (l ≡ n) × (m < 1000)
same_line h e = let column = ap (λ (p : ℕ × ℕ × Refusal). p.1) e in (sym (ap (λ (p : ℕ × ℕ × Refusal). p.0) e), omega (arith, column))

pub says_stop : {P : Sheet → Type 0} {line : ℕ} {step : (Result Sheet (ℕ × ℕ × Refusal))} {l column : ℕ} {r : Refusal} → Says P line step → step ≡ Err (l, column, r) → (l ≡ line) × (column < 1000)
says_stop (goes p) e = absurd (ok_not_err e)
says_stop (stops k) e = same_line k (same_err e)

-- a record's line
pub record Entry (c : Campaign) (line : List ℕ) (s : Sheet) : Type 0 where
  pub flag : ℕ
  pub exposure : ℕ
  pub after : Campaign
  pub flag_kept : flag ≤ 1
  pub bytes : line ≡ entry_text (c.records + 1) flag exposure
  pub taken : telling c (eqb flag 1) exposure ≡ Ok after
  pub next : s ≡ Open after

pub record_says : (column : ℕ) (c : Campaign) (line : List ℕ) → column < 1000
    → Says (Entry c line) (line_after c) (record_line column c line)
record_says column c line k = go (record_reads column c line)
  where
    go : {s : (Result Sheet (ℕ × ℕ × Refusal))} → Reads (Told c line) (malformed (line_after c) column) s → Says (Entry c line) (line_after c) s
    go ill = stops k
    go (good t) =
        let x = t.text in
        rw t.is
        (says_outcome (telling c (eqb x.flag 1) x.exposure)
        (λ d e. record {
          flag = x.flag;
          exposure = x.exposure;
          after = d;
          flag_kept = x.flag_kept;
          bytes = x.bytes;
          taken = e;
          next = refl;
        }))

-- line 1
pub record Opening (line : List ℕ) (s : Sheet) : Type 0 where
  pub standard : ℕ
  pub after : Campaign
  pub bytes : line ≡ head_text standard
  pub taken : opened standard ≡ Ok after
  pub next : s ≡ Open after

pub standard_says : (column : ℕ) (line : List ℕ) → column < 1000 → Says (Opening line) 1 (standard_line column line)
standard_says column line k = go (standard_reads column line)
  where
    go : {s : (Result Sheet (ℕ × ℕ × Refusal))} → Reads (ToldStandard line) (malformed 1 column) s → Says (Opening line) 1 s
    go ill = stops k
    go (good t) =
        rw t.is
        (says_outcome (opened t.text.standard)
        (λ d o. record { standard = t.text.standard; after = d; bytes = t.text.bytes; taken = o; next = refl }))
