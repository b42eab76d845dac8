-- "Exactly if": each from the other. Assumes nothing.

pub record Exactly (A B : Type 0) : Type 0 where
  pub only_if : A → B
  pub when : B → A
