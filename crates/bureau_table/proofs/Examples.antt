-- Request 9's sentences on small tables, by computation. Assumes nothing.
use mathlib.Core.Path.{◌≡◌, refl}
use mathlib.Core.Bool.{false, true}
use mathlib.Core.List.{List, [], ◌∷◌}
use Prim.Native.Nat.{ℕ}
use Rattle.refusal.specs.declared.Refusal.TheVariants.{BrokenState, Item, NoBureau, NotItsOwn}
use Rattle.campaign_verdict.specs.declared.Verdict.TheVariants.{NoRecord}
use Rattle.campaign_state.specs.Answers.{entering}
use Rattle.campaign_verdict.specs.Answers.{judging}
use Rattle.campaign_state.specs.State.{sound}
use Rattle.bureau_table.specs.declared.Ask.{Ask}
use Rattle.bureau_table.specs.declared.Ask.TheVariants.{On, Take}
use Rattle.bureau_table.specs.declared.Place.{Place}
use Rattle.bureau_table.specs.declared.Work.TheVariants.{Enter, GiveBack, Judge}
use Rattle.bureau_table.specs.Table.{all_kept, bare, jobs, kept, lowest_free}
use Rattle.bureau_table.specs.Calls.{called}
use Rattle.bureau_table.specs.declared.Call.{Call}
use Rattle.bureau_table.specs.declared.Reply.TheVariants.{Entered, Freed, Judged, Placed}
use Rattle.refusal.specs.declared.Refusal.{Refusal}
use Rattle.bureau_table.specs.declared.Reply.{Reply}
use Rattle.std.specs.Prelude.{Result, Ok, Err}

-- the answers to calls, one after the other
told : List Place → List Call → List (Result Reply Refusal)
told t [] = []
told t (c ∷ cs) = (called t c.bureau c.ask).answer ∷ told (called t c.bureau c.ask).table cs

infix 90 ◌asks◌
abbrev ◌asks◌ : ℕ → Ask → Call
b asks a = record { bureau = b; ask = a }

-- 8 first of all, then 13
broken : (called [] 3 (Take 0)).answer ≡ Err BrokenState
unfolding called kept
broken = refl

-- two bureaus in turn: a place is its owner's until it gives it back, and then anyone's
in_turn :
    told bare
    (1 asks Take 1000
    ∷ (2 asks Take 2000
    ∷ (3 asks Take 1000
    ∷ (1 asks Take 0
    ∷ (2 asks On 0 Judge
    ∷ (2 asks On 32 Judge
    ∷ (1 asks On 0 (Enter (record { failed = false; exposure = 0 }))
    ∷ (1 asks On 0 (Enter (record { failed = true; exposure = 500 }))
    ∷ (2 asks On 1 Judge
    ∷ (1 asks On 0 GiveBack
    ∷ (1 asks On 0 GiveBack
    ∷ (2 asks Take 3000
    ∷ []))))))))))))
    ≡ Ok (Placed 0)
    ∷ (Ok (Placed 1)
    ∷ (Err NoBureau
    ∷ (Err (Item 5)
    ∷ (Err NotItsOwn
    ∷ (Err NotItsOwn
    ∷ (Err BrokenState
    ∷ ((Ok Entered)
    ∷ (Ok (Judged NoRecord)
    ∷ ((Ok Freed)
    ∷ (Err NotItsOwn
    ∷ (Ok (Placed 0)
    ∷ [])))))))))))
unfolding told called kept all_kept jobs lowest_free sound entering judging
in_turn = refl
