-- What stands between the code and the definitions to be believed.
-- BadEffects: the first bad fact of an action's effects.
pub mod BadEffects
