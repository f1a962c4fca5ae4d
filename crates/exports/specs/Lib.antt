-- Services: what each service that strikes nothing writes over words that programs in other languages lend.
pub mod Services
