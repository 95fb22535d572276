mod Lending
mod TakenBack
mod NumberedWorkers
mod RanWorkers
mod HandedOver
mod FewHanded
